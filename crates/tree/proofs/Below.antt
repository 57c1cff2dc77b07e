-- The nodes below a node, and the children of a make.
use Rattle.std.proofs.Common.{◌≡◌, ℕ, zero, suc, ◌+◌, ◌-◌, ◌<◌, ◌≤◌, true, false, cond, leb, eqb, List, [], ◌∷◌, ◌++◌, length, get_or, take, drop, sym, refl, ap, ◌∙◌, subst, ⊎_elim, add_assoc, zero-add, take_all, Some, None, Option, Ok, arith}
use Rattle.std.proofs.lemmas.List.{drop_more, drop_all, drop-drop, length-append, length-drop, get_or_read_under}
use Rattle.std.proofs.lemmas.Bool.{cases_Bool, cases_lt, both_ways, cond_above, cond_below, leb-true, leb-false, le-leb, lt-leb, ne_eqb}
use Rattle.std.specs.List.{cons_option, filter_map, range_with_len, zip}
use Rattle.tree.specs.declared.node.Node.{Node}
use Rattle.tree.specs.declared.tree.Tree.{Tree}
use Rattle.tree.specs.Nodes.{at, top, total, is_make}
use Rattle.tree.specs.Kept.{Placed, Topped}
use Rattle.tree.specs.Questions.{front_of, belonging, count_of, asked}

-- what a slice from k on takes
pub behind : (k : ℕ) (xs : List Node) → take (length xs - k) (drop k xs) ≡ drop k xs
behind k xs = take_all (length xs - k) (drop k xs) (simp length-drop (omega arith))

-- an answer is of a node in the tree
pub answered : {X : Type 0} (t : Tree) (n : ℕ) (x y : X) → Ok x ≡ asked t n y → (n < count_of t) × (x ≡ y)
answered t n x y e =
    ⊎_elim
    (λ lt. (lt, let same = e ∙ sym (cond_below n (count_of t) _ _ lt) in cc))
    (λ ge. absurd (let none = e ∙ sym (cond_above n (count_of t) _ _ _ ge refl) in cc))
    (cases_lt n (count_of t))

pub total_append : (xs ys : List Node) → total (xs ++ ys) ≡ total xs + total ys
unfolding total
total_append [] ys = sym (zero-add (total ys))
total_append (x ∷ xs) ys = ap (λ n. x.steps + n) (total_append xs ys) ∙ sym (add_assoc x.steps (total xs) (total ys))

pub total_drop : (k : ℕ) (xs : List Node) → total (drop k xs) ≤ total xs
unfolding total
total_drop zero xs = omega arith
total_drop (suc k) [] = omega arith
total_drop (suc k) (x ∷ xs) = omega (arith, total_drop k xs)

pub front_in : (n : ℕ) (x : Node) (xs : List Node) → n ≤ x.make → front_of n (x ∷ xs) ≡ x ∷ front_of n xs
unfolding front_of
front_in n x xs h = rw (le-leb n x.make h)

pub front_out : (n : ℕ) (x : Node) (xs : List Node) → x.make < n → front_of n (x ∷ xs) ≡ []
unfolding front_of
front_out n x xs h = rw (lt-leb n x.make h)

pub front_none : (n : ℕ) → front_of n [] ≡ []
unfolding front_of
front_none n = refl

pub front_total : (n : ℕ) (xs : List Node) → total (front_of n xs) ≤ total xs
unfolding front_of total
front_total n [] = omega arith
front_total n (x ∷ xs) =
    elim (leb n x.make) as (λ b. total (cond b (x ∷ front_of n xs) []) ≤ x.steps + total xs)
    [ true ↦ omega (arith, front_total n xs) | false ↦ omega arith ]

pub front_length : (n : ℕ) (xs : List Node) → length (front_of n xs) ≤ length xs
unfolding front_of
front_length n [] = omega arith
front_length n (x ∷ xs) =
    elim (leb n x.make) as (λ b. length (cond b (x ∷ front_of n xs) []) ≤ suc (length xs))
    [ true ↦ omega (arith, front_length n xs) | false ↦ omega arith ]

-- what is below a later node c is below n, and then the rest follows
pub front_join : (n c : ℕ) (xs : List Node) → n ≤ c → front_of n xs ≡ front_of c xs ++ front_of n (drop (length (front_of c xs)) xs)
front_join n c [] h = front_none n ∙ sym (ap (λ l. l ++ front_of n (drop (length l) [])) (front_none c) ∙ front_none n)
front_join n c (x ∷ xs) h =
    ⊎_elim
    (λ e. let in_c = front_in c x xs (leb-true c x.make e) in
    let in-n = front_in n x xs (omega (arith, leb-true c x.make e)) in
    in-n ∙ ap (λ l. x ∷ l) (front_join n c xs h) ∙ sym (ap (λ l. l ++ front_of n (drop (length l) (x ∷ xs))) in_c))
    (λ e. sym (ap (λ l. l ++ front_of n (drop (length l) (x ∷ xs))) (front_out c x xs (leb-false c x.make e))))
    (cases_Bool (leb c x.make))

-- the sum and the number so far, and what is left, are the whole
pub record Summed (ns : List Node) (n first sum next : ℕ) : Type 0 where
  pub steps : sum + total (front_of n (drop next ns)) ≡ total (front_of n (drop first ns))
  pub behind : next + length (front_of n (drop next ns)) ≡ first + length (front_of n (drop first ns))
  pub within : next ≤ length ns

module _ (ns : List Node) (n first sum next : ℕ) (so_far : Summed ns n first sum next) where
  pub sum_bound : sum ≤ total ns
  sum_bound = omega (arith, so_far.steps, front_total n (drop first ns), total_drop first ns)

  -- nothing is left
  pub sum_end : front_of n (drop next ns) ≡ [] → (sum ≡ total (front_of n (drop first ns))) × (next ≡ first + length (front_of n (drop first ns)))
  unfolding total
  sum_end e = (omega (arith, so_far.steps, ap total e), omega (arith, so_far.behind, ap length e))

  pub left_none : length ns ≤ next → front_of n (drop next ns) ≡ []
  left_none h = ap (front_of n) (drop_all next ns h) ∙ front_none n

  pub left_out : next < length ns → (at ns next).make < n → front_of n (drop next ns) ≡ []
  left_out h lt = ap (front_of n) (drop_more ns next top h) ∙ front_out n (at ns next) (drop (next + 1) ns) lt

  -- one node more
  pub sum_node : next < length ns → n ≤ (at ns next).make → Summed ns n first (sum + (at ns next).steps) (next + 1)
  unfolding total
  sum_node h le =
      let e = ap (front_of n) (drop_more ns next top h) ∙ front_in n (at ns next) (drop (next + 1) ns) le in
      record { steps = omega (arith, so_far.steps, ap total e); behind = omega (arith, so_far.behind, ap length e); within = omega arith }

  -- all nodes below a later node c more
  pub sum_below : (c more end : ℕ) → n ≤ c → more ≡ total (front_of c (drop next ns)) → end ≡ next + length (front_of c (drop next ns)) → Summed ns n first (sum + more) end
  sum_below c more end h m e =
      let j = front_join n c (drop next ns) h in
      let d : drop (length (front_of c (drop next ns))) (drop next ns) ≡ drop end ns = drop-drop (length (front_of c (drop next ns))) next ns ∙ ap (λ k. drop k ns) (sym e) in
      let k = j ∙ ap (λ l. front_of c (drop next ns) ++ front_of n l) d in
      record {
        steps = omega (arith, so_far.steps, ap total k ∙ total_append (front_of c (drop next ns)) (front_of n (drop end ns)));
        behind = omega (arith, so_far.behind, ap length k ∙ length-append (front_of c (drop next ns)) (front_of n (drop end ns)));
        within = omega (arith, front_length c (drop next ns), length-drop next ns, so_far.within);
      }

-- the number of a node that belongs to make m
abbrev pub child_of : ℕ → ℕ × Node → Option ℕ
child_of m p = cond (eqb p.1.make m) (Some p.0) None

-- the children, as a filter of the numbered nodes gives them
pub belonging_filter : (m k : ℕ) (xs : List Node) → filter_map (child_of m) (zip (range_with_len k (length xs)) xs) ≡ belonging m k xs
unfolding belonging
belonging_filter m k [] = refl
belonging_filter m k (x ∷ xs) =
    let rest = belonging_filter m (k + 1) xs in
    elim (eqb x.make m) as (λ b. cons_option (cond b (Some k) None) (filter_map (child_of m) (zip (range_with_len (k + 1) (length xs)) xs)) ≡ cond b (k ∷ belonging m (k + 1) xs) (belonging m (k + 1) xs))
    [ true ↦ ap (λ l. k ∷ l) rest | false ↦ rest ]

-- a node's steps and those behind it are within the total
pub node_bound : (xs : List Node) (n : ℕ) → n < length xs → (at xs n).steps + total (drop (n + 1) xs) ≤ total xs
unfolding total
node_bound xs n h = omega (arith, total_drop n xs, ap total (drop_more xs n top h))

-- one node more, as it is read twice from a `Vec` of that length
pub sum_read : (ns : List Node) (n first sum next : ℕ) → Summed ns n first sum next → (len : ℕ) (x y : Node) → x ≡ get_or ns next x → y ≡ get_or ns next y → next < len → len ≡ length ns → n ≤ x.make → Summed ns n first (sum + y.steps) (next + 1)
sum_read ns n first sum next so_far len x y ex ey lt ok le =
    subst (λ z. Summed ns n first (sum + z.steps) (next + 1)) (sym (get_or_read_under ns next len y top ey lt ok))
    (sum_node ns n first sum next so_far (omega arith) (subst (λ z. n ≤ z.make) (get_or_read_under ns next len x top ex lt ok) le))

-- a node is not before the node that it is below
pub not_behind : (ns : List Node) → Placed ns → Topped ns → (n next len : ℕ) (x : Node) → x ≡ get_or ns next x → next < len → len ≡ length ns → n ≤ x.make → n ≤ next
not_behind ns placed topped n next len x ex lt ok le =
    let is = get_or_read_under ns next len x top ex lt ok in
    ⊎_elim
    (λ z. omega (arith, ap (λ y. y.make) is, (placed next (z, omega arith)).0))
    (λ z. let zero-next : next ≡ 0 = omega arith in omega (arith, ap (λ y. y.make) is, ap (λ k. (at ns k).make) zero-next, topped.1))
    (cases_lt 0 next)

-- no node belongs to a job
pub job_childless : (ns : List Node) (m : ℕ) → Placed ns → is_make ns m ≡ false → (xs : List Node) (k : ℕ) → 0 < k → drop k ns ≡ xs → belonging m k xs ≡ []
unfolding belonging
job_childless ns m placed no-make [] k pos e = refl
job_childless ns m placed no-make (x ∷ xs) k pos e =
    let lt : k < length ns = omega (arith, ap length e, length-drop k ns) in
    let split : at ns k ∷ drop (k + 1) ns ≡ x ∷ xs = sym (drop_more ns k top lt) ∙ e in
    let is : at ns k ≡ x = cc in
    let more : drop (k + 1) ns ≡ xs = cc in
    let apart : x.make ≡ m → ⊥ = λ same. both_ways (is_make ns m) no-make (ap (is_make ns) (sym same) ∙ ap (λ y. is_make ns y.make) (sym is) ∙ (placed k (pos, lt)).1) in
    ap (λ b. cond b (k ∷ belonging m (k + 1) xs) (belonging m (k + 1) xs)) (ne_eqb x.make m apart) ∙
    job_childless ns m placed no-make xs (k + 1) (omega arith) more

front_all : (xs : List Node) → front_of 0 xs ≡ xs
front_all [] = front_none 0
front_all (x ∷ xs) = front_in 0 x xs (omega arith) ∙ ap (λ l. x ∷ l) (front_all xs)

-- all nodes are below the top make
pub whole_subtree : (ns : List Node) → 0 < length ns → (at ns 0).steps + total (front_of 0 (drop 1 ns)) ≡ total ns
unfolding total
whole_subtree [] h = absurd (omega arith)
whole_subtree (x ∷ xs) h = ap (λ l. x.steps + total l) (front_all xs)
