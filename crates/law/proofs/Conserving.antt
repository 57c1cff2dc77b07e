-- What a run takes from the pool is in the makes' hands, byte by byte. Assumes the laws of the pool.
use Rattle.std.proofs.Common.{◌≡◌, ℕ, ◌+◌, ◌≤◌, eqb, List, [], ◌∷◌, reverse, Some, None, Option, sym, refl, ap, ◌∙◌, subst, arith}
use mathlib.Core.List.{reverse-cons}
use Rattle.law.proofs.Moves.{Keeping}
use Rattle.law.proofs.Running.{one_false}
use Rattle.law.proofs.Tokens.{of_make, goes_some}
use Rattle.law.specs.Answers.{Answers, next_answer, answering}
use Rattle.law.specs.Counts.{one_if, how_many}
use Rattle.law.specs.Lending.{Lends}
use Rattle.pool.proofs.Chains.{chain_split}
use Rattle.pool.specs.Chain.{Op, took_none, took, put_back, Did, Chain}
use Rattle.pool.specs.Ways.{Ways}
use Rattle.rules.specs.Builds.{Held}
use Rattle.rules.specs.Ending.{goes_back, put_found, mark, ends_so}
use Rattle.rules.specs.Settling.{Run}
use Rattle.rules.specs.declared.progress.State.{State}
use Rattle.rules.specs.declared.progress.State.TheVariants.{Waiting, Running, Good, Failed}
use Rattle.std.proofs.lemmas.Bool.{ne_eqb}

-- how many tokens of byte k are in hand
abbrev pub in_hand : ℕ → List Held → ℕ
in_hand k ts = how_many (λ h. eqb h.byte k) ts

-- what a take noted
pub asked_some : (bs : List ℕ) (ops : List Op) (byte : ℕ) (a : Answers) → next_answer bs ops ≡ (Some byte, a) → a.asked ≡ took byte ∷ ops
asked_some [] ops byte a e = let first : ◌≡◌ {A = Option ℕ} None (Some byte) = ap (λ x. x.0) e in let z : ◌≡◌ {A = ℕ} 0 1 = cc in absurd (omega arith)
asked_some (b ∷ bs) ops byte a e =
    let first : ◌≡◌ {A = Option ℕ} (Some b) (Some byte) = ap (λ x. x.0) e in
    let same : b ≡ byte = cc in
    ap (λ x. x.1.asked) (sym e) ∙ ap (λ y. took y ∷ ops) same

pub asked_none : (bs : List ℕ) (ops : List Op) (a : Answers) → next_answer bs ops ≡ (None, a) → a.asked ≡ took_none ∷ ops
asked_none [] ops a e = ap (λ x. x.1.asked) (sym e)
asked_none (b ∷ bs) ops a e = let first : ◌≡◌ {A = Option ℕ} (Some b) None = ap (λ x. x.0) e in let z : ◌≡◌ {A = ℕ} 0 1 = cc in absurd (omega arith)

module _ {P : Type 0} (w : Ways P) (lends : Lends w) where
  -- the last of the operations
  pub last_op : (op : Op) (ops : List Op) (p q : P) → Chain (Did w) (reverse (op ∷ ops)) p q → (m : P) × Chain (Did w) (reverse ops) p m × Did w op m q
  last_op op ops p q c =
      let parts = chain_split (Did w) (reverse ops) (op ∷ []) p q (subst (λ l. Chain (Did w) l p q) (reverse-cons op ops) c) in
      (parts.0, parts.1, subst (Did w op parts.0) (sym parts.2.2) parts.2.1)

  module _ (p : P) (before : List Held) where
    -- what is in the pool and in hand is what was there, and only bytes are in hand
    pub record Whole (q : P) (ts : List Held) : Type 0 where
      pub sum : (k : ℕ) → (w.means q).ins k + in_hand k ts ≡ (w.means p).ins k + in_hand k before
      pub bytes : (k : ℕ) → 256 ≤ k → in_hand k ts ≡ 0

    abbrev pub Conserves : Run Answers → Type 0
    Conserves r = (q : P) → Chain (Did w) (reverse r.pool.asked) p q → Whole q r.build.tokens

    whole_taken : (m q : P) (ts : List Held) (make byte : ℕ) → Whole m ts → w.gave m byte q → Whole q (of_make make byte ∷ ts)
    whole_taken m q ts make byte h gave =
        let law = lends.taken m byte q gave in
        record {
          sum = λ k. omega (arith, h.sum k, law.ins k);
          bytes = λ k past. let apart : one_if (eqb byte k) ≡ 0 = one_false _ (ne_eqb byte k (λ e. omega (arith, law.byte))) in omega (arith, h.bytes k past, apart);
        }

    whole_back : (m q : P) (ts : List Held) (make : ℕ) (f : ℕ × List Held) → goes_back make ts ≡ Some f → Whole m ts → w.back m f.0 q → Whole q f.1
    whole_back m q ts make f e h back =
        let law = lends.returned m f.0 q back in
        record {
          sum = λ k. omega (arith, h.sum k, law.ins k, goes_some make ts f e (λ x. eqb x.byte k));
          bytes = λ k past. omega (arith, h.bytes k past, goes_some make ts f e (λ x. eqb x.byte k));
        }

    ends_conserves : (how : State) (n : ℕ) (r : Run Answers) → Conserves r → Conserves (ends_so how n r)
    ends_conserves Waiting n r h = h
    ends_conserves Running n r h = h
    ends_conserves Good n r h = h
    ends_conserves (Failed c) n r h = h

    mark_conserves : (how : State) (m n : ℕ) (r : Run Answers) → Conserves r → Conserves (mark how m n r)
    mark_conserves Waiting m n r h = h
    mark_conserves Running m n r h = h
    mark_conserves Good m n r h = h
    mark_conserves (Failed c) m n r h = h

    found_conserves : (make : ℕ) (o : Option (ℕ × List Held)) (r : Run Answers) → goes_back make r.build.tokens ≡ o → Conserves r → Conserves (put_found answering make o r)
    found_conserves make None r e h q chain = h q chain
    found_conserves make (Some f) r e h q chain =
        let l = last_op (put_back f.0) r.pool.asked p q chain in
        whole_back l.0 q r.build.tokens make f e (h l.0 l.1) l.2

    pub keeping_conserved : Keeping answering Conserves
    keeping_conserved = record {
      on_slot = λ s r i h. h;
      on_token = λ s byte a r i e h q chain.
          let l = last_op (took byte) r.pool.asked p q (subst (λ ops. Chain (Did w) (reverse ops) p q) (asked_some r.pool.coming r.pool.asked byte a e) chain) in
          whole_taken l.0 q r.build.tokens s.make byte (h l.0 l.1) l.2;
      on_none = λ a r e h q chain.
          let l = last_op took_none r.pool.asked p q (subst (λ ops. Chain (Did w) (reverse ops) p q) (asked_none r.pool.coming r.pool.asked a e) chain) in
          subst (λ x. Whole x r.build.tokens) (sym l.2.1) (h l.0 l.1);
      on_child = λ how n r pos ended due h. mark_conserves how (r.build.plan.make n) n _ (found_conserves (r.build.plan.make n) _ (ends_so how n r) refl (ends_conserves how n r h));
      on_top = λ how r so ended due h. ends_conserves how 0 r h;
    }
