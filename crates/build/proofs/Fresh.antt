-- A build that has not begun, and its room. Assumes nothing.
use Rattle.std.proofs.Common.{◌≡◌, ℕ, zero, suc, ◌+◌, ◌-◌, ◌*◌, ◌≤◌, Bool, true, false, cond, ltb, List, [], ◌∷◌, ◌++◌, length, get_or, take, replicate, Some, None, Option, refl, ap, ◌∙◌, arith}
use Rattle.std.proofs.lemmas.List.{take_all}
use Rattle.pool.specs.Meaning.{sum_below, total as all_bytes}
use Rattle.rules.specs.Builds.{unbegun, at, begun_on}
use Rattle.rules.specs.Plans.{Plan, plan_of, needed}
use Rattle.rules.specs.Refusing.{open_refusal}
use Rattle.rules.specs.declared.progress.Progress.{Progress}
use Rattle.std.proofs.lemmas.Bool.{false≢true, ltb-false}
use Rattle.tree.specs.Nodes.{makes, total}
use Rattle.tree.specs.Nodes as nodes
use Rattle.tree.specs.Questions.{nodes_of, count_of}
use Rattle.tree.specs.declared.node.Node.{Node}
use Rattle.tree.specs.declared.tree.Tree.{Tree}
use Rattle.build.specs.Rooms.{sum_from, unstarted, unended, to_start, to_end, bytes_left, room}

fresh_at : (k n : ℕ) → get_or (replicate k unbegun) n unbegun ≡ unbegun
fresh_at zero n = refl
fresh_at (suc k) zero = refl
fresh_at (suc k) (suc n) = fresh_at k n

pub fresh_waits : (t : Plan) (keep : Bool) (n : ℕ) → at (begun_on t keep) n ≡ unbegun
fresh_waits t keep n = fresh_at t.nodes n

-- 1 for each node
ones : (f : ℕ → Progress → ℕ) → ((k : ℕ) → f k unbegun ≡ 1) → (k n : ℕ) → sum_from f k (replicate n unbegun) ≡ n
unfolding sum_from
ones f one k zero = refl
ones f one k (suc n) = omega (arith, one k, ones f one (k + 1) n)

-- 12 for each node, and 2 for each of its steps
fresh_sum : (steps : ℕ → ℕ) (k : ℕ) (ns : List Node) → ((i : ℕ) → steps (k + i) ≡ (nodes.at ns i).steps) → sum_from (λ j x. bytes_left x.state (steps j - x.done)) k (replicate (length ns) unbegun) ≡ 12 * length ns + 2 * total ns
unfolding sum_from total
fresh_sum steps k [] same = refl
fresh_sum steps k (x ∷ ns) same =
    let here : steps k ≡ x.steps = ap steps (omega arith) ∙ same 0 in
    let rest = fresh_sum steps (k + 1) ns (λ i. ap steps (omega arith) ∙ same (suc i)) in
    omega arith

module _ (t : Tree) (keep : Bool) where
  -- as many nodes are still to start, and to end, as there are
  pub fresh_starts : to_start (begun_on (plan_of (nodes_of t)) keep).nodes ≡ count_of t
  fresh_starts = ones (λ _ x. unstarted x.state) (λ k. refl) 0 (count_of t)

  pub fresh_ends : to_end (begun_on (plan_of (nodes_of t)) keep).nodes ≡ count_of t
  fresh_ends = ones (λ _ x. unended x.state) (λ k. refl) 0 (count_of t)

  -- 5 bytes are more than it needs
  pub fresh_room : room (begun_on (plan_of (nodes_of t)) keep) + 5 ≡ needed (plan_of (nodes_of t))
  fresh_room =
      let first = ap (λ (x : Progress). unended x.state) (fresh_at (count_of t) 0) in
      let sum = fresh_sum (λ j. (nodes.at (nodes_of t) j).steps) 0 (nodes_of t) (λ i. ap (λ j. (nodes.at (nodes_of t) j).steps) (omega arith)) in
      omega arith

-- sums over the byte values
pub below_more : (f : ℕ → ℕ) (n : ℕ) → sum_below f (n + 1) ≡ sum_below f n + f n
unfolding sum_below
below_more f n = let up : n + 1 ≡ suc n = omega arith in ap (sum_below f) up

below_grows : (f : ℕ → ℕ) (n k : ℕ) → sum_below f n ≤ sum_below f (n + k)
unfolding sum_below
below_grows f n zero = let same : n + 0 ≡ n = omega arith in omega (arith, ap (sum_below f) same)
below_grows f n (suc k) = let up : n + suc k ≡ suc (n + k) = omega arith in omega (arith, ap (sum_below f) up, below_grows f n k)

pub below_total : (f : ℕ → ℕ) (n : ℕ) → n ≤ 256 → sum_below f n ≤ all_bytes f
unfolding all_bytes
below_total f n h = let up : n + (256 - n) ≡ 256 = omega arith in omega (arith, ap (sum_below f) up, below_grows f n (256 - n))

pub all_below : (f : ℕ → ℕ) (n : ℕ) → n ≡ 256 → sum_below f n ≡ all_bytes f
unfolding all_bytes
all_below f n e = ap (sum_below f) e

pub below_none : (f : ℕ → ℕ) → sum_below f 0 ≡ 0
unfolding sum_below
below_none f = refl

-- where an open is not refused, the buffer is as long as needed
pub open_accepts : (t : Plan) (out buffer : ℕ) → None ≡ open_refusal t out buffer → needed t ≤ buffer
open_accepts t out buffer e = split (ltb 0 out) (ltb buffer (needed t)) refl e
  where
    split : (s f : Bool) → ltb buffer (needed t) ≡ f → ◌≡◌ {A = Option ℕ} None (cond s (Some 14) (cond f (Some 15) None)) → needed t ≤ buffer
    split true f i e = let z : ◌≡◌ {A = ℕ} 0 1 = cc in absurd (omega arith)
    split false true i e = let z : ◌≡◌ {A = ℕ} 0 1 = cc in absurd (omega arith)
    split false false i e = ltb-false buffer (needed t) i

-- a table that was emptied and then filled
pub filled_table : (last old : List Progress) (n len count : ℕ) (t : Bool) → last ≡ cond t (take n old ++ replicate (n - len) unbegun) old → t ≡ true → old ≡ [] → len ≡ 0 → n ≡ count → last ≡ replicate count unbegun
filled_table last old n len count true e so empty none same =
    let all : n - len ≡ count = omega arith in
    e ∙ ap (λ l. take n l ++ replicate (n - len) unbegun) empty ∙ ap (λ l. l ++ replicate (n - len) unbegun) (take_all n [] (omega arith)) ∙ ap (λ k. replicate k unbegun) all
filled_table last old n len count false e so empty none same = absurd (false≢true so)
