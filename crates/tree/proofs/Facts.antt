-- What each call of a tree that grows keeps of its nodes and its open makes.
use Rattle.std.proofs.Common.{◌≡◌, ℕ, ◌+◌, ◌<◌, ◌≤◌, Bool, true, false, cond, ◌&&◌, eqb, leb, List, [], ◌∷◌, ◌++◌, length, get_or, vec_items, sym, refl, ap, ◌∙◌, subst, ⊎_elim, add-zero, arith}
use Rattle.std.proofs.lemmas.List.{get_or_push, length_push, length-reverse}
use Rattle.std.proofs.lemmas.Bool.{cases_lt, both_ways, false≢true, and_from, le-leb}
use Rattle.tree.specs.declared.growing.Growing.{Growing}
use Rattle.tree.specs.declared.node.Node.{Node}
use Rattle.tree.specs.declared.tree.Tree.{Tree}
use Rattle.tree.specs.Nodes.{top, at, is_make, makes, total}
use Rattle.tree.specs.Kept.{Counted, Topped, Placed, Together, Levelled, Sized, Parted, Fed, FedBefore, Shaped, Growable, MakeOn, Stacked, Rising, Open, Innermost, steps_fit}
use Rattle.tree.specs.Growth.{kind_of_job, job_node, make_node}
use Rattle.tree.specs.Grown.{growth}
use Rattle.tree.specs.Questions.{fresh, first_job}
use Rattle.tree.proofs.Push

-- the open makes
abbrev pub opens : List ℕ → ℕ → List ℕ
opens outer m = outer ++ m ∷ []

module _ (ns : List Node) (outer : List ℕ) (m : ℕ) (facts : Growable ns outer m) where
  -- the innermost open make
  pub innermost : MakeOn ns m (length outer)
  innermost = Push.last_make ns outer m facts.stacked

  -- all nodes behind it are of it
  behind : (k : ℕ) → (m < k) × (k < length ns) → m ≤ (at ns k).make
  behind k h =
      let e : get_or (opens outer m) (length outer) 0 ≡ m = get_or_push outer m 0 (length outer) refl in
      subst (λ j. j ≤ (at ns k).make) e (facts.opened (length outer) k (omega (arith, length_push outer m), subst (λ j. j < k) (sym e) h.0, h.1))

  -- there are at most seven makes around it
  pub few_outer : length outer ≤ 7
  few_outer =
      let on = innermost in
      ⊎_elim (λ z. subst (λ l. l ≤ 7) on.2 (facts.shaped.levelled m (z, on.0)).1)
      (λ z. let e : m ≡ 0 = omega arith in
      let l : length outer ≡ 0 = sym on.2 ∙ ap (λ k. (at ns k).level) e ∙ facts.shaped.topped.2 in omega arith)
      (cases_lt 0 m)

  module _ (x : Node) (of : x.make ≡ m) (level : x.level ≡ length outer + cond (makes x.kind) 1 0) (flat : x.level ≤ 7) (fit : steps_fit x ≡ true) (late : x.wait ≡ true → m + 1 < length ns) (room : length ns < 200) (few : total ns + x.steps ≤ 20000) where
    pushed : Shaped (ns ++ x ∷ [])
    pushed =
        let on = innermost in
        let lt : x.make < length ns = omega arith in record {
          counted = (omega (arith, length_push ns x), omega (arith, length_push ns x), omega (arith, Push.total_push ns x));
          topped = Push.push_topped ns x facts.shaped.counted.0 facts.shaped.topped;
          placed = Push.push_placed ns x facts.shaped.placed lt (ap (is_make ns) of ∙ on.1);
          together = Push.push_together ns x facts.shaped.placed facts.shaped.together (subst (λ j. (k : ℕ) → (j < k) × (k < length ns) → j ≤ (at ns k).make) (sym of) behind);
          levelled = Push.push_levelled ns x facts.shaped.placed facts.shaped.levelled lt (level ∙ ap (λ l. l + cond (makes x.kind) 1 0) (sym (ap (λ k. (at ns k).level) of ∙ on.2))) flat;
          sized = Push.push_sized ns x facts.shaped.sized fit;
          parted = Push.push_parted ns x facts.shaped.parted (λ w. subst (λ j. j + 1 < length ns) (sym of) (late w));
        }

    feeds : FedBefore (ns ++ x ∷ [])
    feeds = Push.push_fed ns x facts.fed (λ k e mk. of ∙ facts.innermost k (e, mk))

    stays : Stacked (ns ++ x ∷ []) (opens outer m) × Open (ns ++ x ∷ []) (opens outer m)
    stays = (
      Push.push_stacked ns x (opens outer m) facts.stacked,
      Push.push_opened ns x (opens outer m) facts.opened (λ i h. subst (λ j. get_or (opens outer m) i 0 ≤ j) (sym of) (Push.up_to_last outer m facts.rising i h)),
    )

    -- a job as the next node
    pub job_facts : makes x.kind ≡ false → Growable (ns ++ x ∷ []) outer m
    job_facts no-make = record {
      shaped = pushed;
      fed = feeds;
      stacked = stays.0;
      rising = facts.rising;
      opened = stays.1;
      innermost = λ k h. let e : length ns ≡ k = omega (arith, length_push ns x) in
          absurd (both_ways (makes x.kind) no-make (ap (λ y. makes y.kind) (sym (get_or_push ns x top k e)) ∙ h.1));
    }

    -- a make as the next node, which is open
    pub make_facts : makes x.kind ≡ true → Growable (ns ++ x ∷ []) (opens outer m) (length ns)
    make_facts is =
        let os = opens outer m in
        let n = length ns in
        let on : MakeOn (ns ++ x ∷ []) n (length os) = (
          omega (arith, length_push ns x),
          ap (λ y. makes y.kind) (Push.new ns x) ∙ is,
          ap (λ y. y.level) (Push.new ns x) ∙ level ∙ ap (λ b. length outer + cond b 1 0) is ∙ sym (length_push outer m),
        ) in record {
          shaped = pushed;
          fed = feeds;
          stacked = Push.each os n 0 (λ i k. MakeOn (ns ++ x ∷ []) k i) stays.0 on;
          rising = Push.rising_push os n facts.rising (λ i h. (facts.stacked i h).0);
          opened = λ i k h. Push.each os n 0 (λ i j. j < k → j ≤ (at (ns ++ x ∷ []) k).make) (λ i l a. stays.1 i k (l, a, h.2)) (λ a. absurd (omega (arith, length_push ns x, h.2))) i h.0 h.1;
          innermost = λ k h. omega (arith, length_push ns x);
        }

-- the innermost open make is closed, once it has a child
pub done_facts : (ns : List Node) (outer : List ℕ) (p m : ℕ) → Growable ns (outer ++ p ∷ []) m → (m + 1 ≡ length ns → ⊥) → Growable ns outer p
done_facts ns outer p m facts child = record {
  shaped = facts.shaped;
  fed = facts.fed;
  stacked = Push.stacked_pop ns (outer ++ p ∷ []) m facts.stacked;
  rising = Push.rising_pop (outer ++ p ∷ []) m facts.rising;
  opened = Push.opened_pop ns (outer ++ p ∷ []) m facts.opened;
  innermost = λ k h. absurd (child (ap (λ n. n + 1) (facts.innermost k h) ∙ h.0));
}

-- where no make is around it, the innermost open make is the top make
pub top_innermost : (ns : List Node) (m : ℕ) → Growable ns [] m → m ≡ 0
top_innermost ns m facts =
    let on = innermost ns [] m facts in
    ⊎_elim (λ z. absurd (omega (arith, (facts.shaped.levelled m (z, on.0)).0, ap {B = ℕ} (λ b. cond b 1 0) on.1, on.2))) (λ z. omega arith) (cases_lt 0 m)

-- then, with a child of it, every make has a child
pub all_fed : (ns : List Node) (m : ℕ) → Growable ns [] m → (1 ≡ length ns → ⊥) → Fed ns
all_fed ns m facts more k h =
    let top_one = top_innermost ns m facts in
    ⊎_elim
    (λ lt. (lt, facts.fed k (lt, h.1)))
    (λ ge. let last : k + 1 ≡ length ns = omega arith in
    let e : m ≡ k = facts.innermost k (last, h.1) in absurd (more (omega arith)))
    (cases_lt (k + 1) (length ns))

-- the top make alone
pub start_facts : Growable (top ∷ []) [] 0
unfolding total
start_facts = record {
  shaped = record {
    counted = (omega arith, omega arith, omega arith);
    topped = (refl, refl, refl, refl);
    placed = λ n h. absurd (omega arith);
    together = λ n k h. absurd (omega arith);
    levelled = λ n h. absurd (omega arith);
    sized = λ n h. subst (λ k. steps_fit (at (top ∷ []) k) ≡ true) (only n h) refl;
    parted = λ n h. absurd (false≢true (ap (λ k. (at (top ∷ []) k).wait) (only n h.0) ∙ h.1));
  };
  fed = λ m h. absurd (omega arith);
  stacked = λ i h. subst (λ k. MakeOn (top ∷ []) (get_or (0 ∷ []) k 0) k) (only i h) (omega arith, refl, refl);
  rising = λ i j h. absurd (omega arith);
  opened = λ i k h. absurd (omega arith);
  innermost = λ k h. omega arith;
}
  where
    only : (n : ℕ) → n < 1 → 0 ≡ n
    only n h = omega arith

-- the same fact by fact, by the names that they have, with R of the room and S of the sum
pub kept : {R S : Type 0} (ns : List Node) (outer : List ℕ) (m : ℕ) (wait : Bool) → R → Growable ns outer m → S → (wait ≡ true → m + 1 < length ns) → record { room : R; counted : Counted ns; topped : Topped ns; placed : Placed ns; together : Together ns; levelled : Levelled ns; sized : Sized ns; parted : Parted ns; fed : FedBefore ns; stacked : Stacked ns (opens outer m); rising : Rising (opens outer m); opened : Open ns (opens outer m); innermost : Innermost ns m; summed : S; waits : wait ≡ true → m + 1 < length ns }
kept ns outer m wait r f s w = record {
  room = r;
  counted = f.shaped.counted;
  topped = f.shaped.topped;
  placed = f.shaped.placed;
  together = f.shaped.together;
  levelled = f.shaped.levelled;
  sized = f.shaped.sized;
  parted = f.shaped.parted;
  fed = f.fed;
  stacked = f.stacked;
  rising = f.rising;
  opened = f.opened;
  innermost = f.innermost;
  summed = s;
  waits = w;
}

-- a job is no make
pub job_no_make : (fails : Bool) → makes (kind_of_job fails) ≡ false
job_no_make true = refl
job_no_make false = refl

-- a job's steps fit it
job_fits : (fails : Bool) (d : ℕ) → 1 ≤ d → d ≤ 999 → (x : Node) → x.kind ≡ kind_of_job fails → x.steps ≡ d → steps_fit x ≡ true
job_fits fails d a b x k s =
    ap (λ t. cond t (eqb x.steps 0) (leb 1 x.steps && leb x.steps 999)) (ap makes k ∙ job_no_make fails) ∙
    and_from (leb 1 x.steps) (leb x.steps 999) (le-leb 1 x.steps (omega arith)) (le-leb x.steps 999 (omega arith))

module _ (g : Growing) where
  level_is : length (growth g).outer ≡ length (vec_items g.outer)
  level_is = length-reverse (vec_items g.outer)

  -- a job as the next node of a tree that grows
  pub grown_job : (fails : Bool) (d : ℕ) → 1 ≤ d → d ≤ 999 → length (vec_items g.nodes) < 200 → total (vec_items g.nodes) + d ≤ 20000 → Growable (vec_items g.nodes ++ job_node fails d (growth g) ∷ []) (vec_items g.outer) g.make
  grown_job fails d a b n s =
      let level : length (growth g).outer ≡ length (vec_items g.outer) + cond (makes (kind_of_job fails)) 1 0 =
      level_is ∙ sym (add-zero _) ∙ ap {B = ℕ} (λ t. length (vec_items g.outer) + cond t 1 0) (sym (job_no_make fails)) in
      job_facts (vec_items g.nodes) (vec_items g.outer) g.make g.growable (job_node fails d (growth g)) refl level
      (omega (arith, level_is, few_outer _ _ _ g.growable)) (job_fits fails d a b (job_node fails d (growth g)) refl refl) g.waits n s (job_no_make fails)

  -- a make as the next node of a tree that grows
  pub grown_make : length (vec_items g.outer) < 7 → length (vec_items g.nodes) < 200 → Growable (vec_items g.nodes ++ make_node (growth g) ∷ []) (opens (vec_items g.outer) g.make) (length (vec_items g.nodes))
  grown_make o n =
      make_facts (vec_items g.nodes) (vec_items g.outer) g.make g.growable (make_node (growth g)) refl
      (ap (λ l. l + 1) level_is) (omega (arith, level_is)) refl g.waits n (omega (arith, g.growable.shaped.counted.2)) refl

-- what a tree keeps, by the names of its fields
abbrev pub TreeFacts : List Node → ℕ → Type 0
TreeFacts ns steps = record { counted : Counted ns; topped : Topped ns; placed : Placed ns; together : Together ns; levelled : Levelled ns; sized : Sized ns; parted : Parted ns; fed : Fed ns; summed : steps ≡ total ns }

-- so where its nodes are shaped so
pub tree_facts : (ns : List Node) (steps : ℕ) → Shaped ns → Fed ns → steps ≡ total ns → TreeFacts ns steps
tree_facts ns steps s fed summed = record {
  counted = s.counted;
  topped = s.topped;
  placed = s.placed;
  together = s.together;
  levelled = s.levelled;
  sized = s.sized;
  parted = s.parted;
  fed = fed;
  summed = summed;
}

-- so of each tree
pub facts_of_tree : (t : Tree) → TreeFacts (vec_items t.nodes) t.steps
facts_of_tree t = record {
  counted = t.counted;
  topped = t.topped;
  placed = t.placed;
  together = t.together;
  levelled = t.levelled;
  sized = t.sized;
  parted = t.parted;
  fed = t.fed;
  summed = t.summed;
}

-- a fresh tree
pub fresh_facts : TreeFacts fresh 1
unfolding total
fresh_facts =
    let f = job_facts (top ∷ []) [] 0 start_facts first_job refl refl (omega arith) refl (λ e. absurd (false≢true e)) (omega arith) (omega arith) refl in
    tree_facts fresh 1 f.shaped (all_fed fresh 0 f (λ e. absurd (omega arith))) refl
