-- Questions about a tree. Assumes nothing.
use Rattle.std.proofs.Common.{◌≡◌, ℕ, ◌<◌, Bool, true, false, cond, ltb, Ok, Err, Result, refl, sym, ◌∙◌, ⊎_elim, arith}
use Rattle.std.proofs.lemmas.Bool.{ltb-true, cases_lt, cond_below}
use Rattle.std.proofs.lemmas.List.{get_or_past}
use Rattle.tree.specs.Nodes.{top, at}
use Rattle.tree.specs.Questions.{nodes_of, count_of, asked}
use Rattle.tree.specs.declared.questions.Unanswered.{Unanswered}
use Rattle.tree.specs.declared.questions.Unanswered.TheVariants.{NotInTree}
use Rattle.tree.specs.declared.tree.Tree.{Tree}

-- a number for which a question was answered is in the tree
pub asked_inside : {X : Type 0} (t : Tree) (n : ℕ) (x y : X) → Ok y ≡ asked t n x → n < count_of t
asked_inside {X} t n x y e = split (ltb n (count_of t)) refl e
  where
    split : (b : Bool) → ltb n (count_of t) ≡ b → ◌≡◌ {A = Result X Unanswered} (Ok y) (cond b (Ok x) (Err NotInTree)) → n < count_of t
    split true is e = ltb-true n (count_of t) is
    split false is e = let z : ◌≡◌ {A = ℕ} 0 1 = cc in absurd (omega arith)

-- a question is refused only outside the tree, and there the nodes are as the top make
pub outside : {X : Type 0} (t : Tree) (n : ℕ) (x : X) (e : Unanswered) → Err e ≡ asked t n x → at (nodes_of t) n ≡ top
outside {X} t n x e h =
    ⊎_elim
    (λ within.
    let got : ◌≡◌ {A = Result X Unanswered} (Ok x) (Err e) = cond_below n (count_of t) (Ok x) (Err NotInTree) within ∙ sym h in
    let z : ◌≡◌ {A = ℕ} 0 1 = cc in absurd (omega arith))
    (λ past. get_or_past (nodes_of t) n top past)
    (cases_lt n (count_of t))
