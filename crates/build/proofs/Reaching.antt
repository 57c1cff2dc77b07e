-- A sound build has room for all that it may still write. Assumes nothing.
use Rattle.std.proofs.Common.{◌≡◌, ℕ, zero, suc, ◌+◌, ◌-◌, ◌*◌, ◌≤◌, cond, List, [], ◌∷◌, length, sym, refl, ap, ◌∙◌, subst, add-zero, zero-add, add-one, arith}
use Rattle.build.specs.Changes.{reach}
use Rattle.build.specs.Models.{model, status}
use Rattle.build.specs.Rooms.{sum_from, unended, bytes_left, node_room}
use Rattle.build.specs.declared.work.Work.{Work}
use Rattle.law.proofs.Sums.{sum_first, sum_none, sum_same, sum_both, sum_within}
use Rattle.law.specs.Sound.{state_of, entry, left_of, bytes_of, steps_left, Sound}
use Rattle.law.specs.Sound as law
use Rattle.pool.specs.Meaning.{sum_below}
use Rattle.rules.specs.Plans.{needed}
use Rattle.rules.specs.declared.progress.Progress.{Progress}
use Rattle.rules.specs.declared.progress.State.{State}
use Rattle.rules.specs.declared.progress.State.TheVariants.{Waiting, Running, Good, Failed}

-- a sum along the table is one over the numbers
along : (f : ℕ → Progress → ℕ) (k : ℕ) (xs : List Progress) → sum_from f k xs ≡ sum_below (λ i. f (k + i) (entry xs i)) (length xs)
unfolding sum_from
along f k [] = sym (sum_none (λ i. f (k + i) (entry [] i)) 0 (λ i b. absurd (omega arith)))
along f k (x ∷ xs) =
    let rest = along f (k + 1) xs in
    let first = sum_first (λ i. f (k + i) (entry (x ∷ xs) i)) (length xs) in
    let same = sum_same (λ i. f ((k + 1) + i) (entry xs i)) (λ i. f (k + (i + 1)) (entry (x ∷ xs) (i + 1))) (length xs) (λ i b. ap (λ j. f j (entry (x ∷ xs) (i + 1))) (omega arith) ∙ ap (λ j. f ((k + 1) + i) (entry (x ∷ xs) j)) (add-one i)) in
    let here : f (k + 0) x ≡ f k x = ap (λ j. f j x) (add-zero k) in
    omega (arith, rest, first, same, here)

-- what a node may still write
node_within : (s : State) (steps done : ℕ) → bytes_left s (steps - done) ≤ bytes_of s + 2 * left_of s steps done
node_within Waiting steps done = omega arith
node_within Running steps done = omega arith
node_within Good steps done = omega arith
node_within (Failed c) steps done = omega arith

top_within : (s : State) → 3 * unended s ≡ cond (law.unended s) 3 0
top_within Waiting = refl
top_within Running = refl
top_within Good = refl
top_within (Failed c) = refl

twice : (f : ℕ → ℕ) (n : ℕ) → sum_below (λ k. 2 * f k) n ≡ 2 * sum_below f n
unfolding sum_below
twice f zero = refl
twice f (suc n) = omega (arith, twice f n)

pub reach_within : (e : Work) → Sound (status e) → reach e + unended (state_of (model e).nodes 0) ≤ needed (model e).plan
reach_within e s =
    let t = (model e).plan in
    let ns = (model e).nodes in
    let table = along (node_room t) 0 ns in
    let each = sum_within (λ i. node_room t (0 + i) (entry ns i)) (λ i. bytes_of (state_of ns i) + 2 * left_of (state_of ns i) (t.steps i) (entry ns i).done) (length ns)
    (λ i b. subst (λ j. node_room t j (entry ns i) ≤ bytes_of (state_of ns i) + 2 * left_of (state_of ns i) (t.steps i) (entry ns i).done) (sym (zero-add i)) (node_within (state_of ns i) (t.steps i) (entry ns i).done)) in
    let both = sum_both (λ i. bytes_of (state_of ns i)) (λ i. 2 * left_of (state_of ns i) (t.steps i) (entry ns i).done) (length ns) in
    let double = twice (λ i. left_of (state_of ns i) (t.steps i) (entry ns i).done) (length ns) in
    let steps = ap (λ n. sum_below (λ i. left_of (state_of ns i) (t.steps i) (entry ns i).done) n) s.shape.whole in
    let bytes = ap (λ n. sum_below (λ i. bytes_of (state_of ns i)) n) s.shape.whole in
    let top = top_within (state_of ns 0) in
    omega (arith, table, each, both, double, steps, bytes, top, s.room)
