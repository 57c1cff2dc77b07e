-- A queue keeps the laws of a lender.
use Rattle.std.proofs.Common.{◌≡◌, ℕ, ◌+◌, ◌<◌, cond, List, [], ◌∷◌, length, sym, refl, ap, ◌∙◌, subst, ⊎_elim, arith}
use Rattle.law.specs.Lending.{Lends}
use Rattle.worked_traces.specs.Queues.{AllBytes, Queue, without, queue_ways}
use Rattle.pool.proofs.Counts.{count_append, count_first}
use Rattle.pool.proofs.Totals.{total_more, total_none}
use Rattle.pool.specs.Meaning.{count, only, total, Bounded}
use Rattle.std.proofs.lemmas.Bool.{cases_eq, eq-eqb, ne_eqb}

-- all counts of a list of bytes add up to its length
counts_all : (l : List ℕ) → AllBytes l → total (λ k. count k l) ≡ length l
unfolding count
counts_all [] h = total_none
counts_all (b ∷ bs) h =
    let more = total_more (λ k. count k bs) (λ k. count k (b ∷ bs)) b 1 h.0 (λ k. refl) in
    omega (arith, more, counts_all bs h.1)

-- another token at the front does not count
pub not_first : (b x : ℕ) (xs : List ℕ) → (x ≡ b → ⊥) → count b (x ∷ xs) ≡ count b xs
not_first b x xs ne = omega (arith, count_first b x xs, ap {B = ℕ} (λ t. cond t 1 0) (ne_eqb x b ne))

-- what is among some bytes is a byte
pub counted_byte : (b : ℕ) (l : List ℕ) → AllBytes l → 0 < count b l → b < 256
unfolding count
counted_byte b [] h some = absurd (omega arith)
counted_byte b (x ∷ xs) h some =
    ⊎_elim
    (λ e. subst (λ n. n < 256) e h.0)
    (λ ne. counted_byte b xs h.1 (subst (λ n. 0 < n) (not_first b x xs ne) some))
    (cases_eq x b)

-- one token less: its count falls by one
count_without : (b k : ℕ) (l : List ℕ) → 0 < count b l → count k (without b l) + only b 1 k ≡ count k l
unfolding count
count_without b k [] some = absurd (omega arith)
count_without b k (x ∷ xs) some =
    ⊎_elim
    (λ e. ap (λ t. count k (cond t xs (x ∷ without b xs)) + only b 1 k) (eq-eqb x b e) ∙ ap (λ y. count k xs + only y 1 k) (sym e))
    (λ ne. let rest = count_without b k xs (subst (λ n. 0 < n) (not_first b x xs ne) some) in
    ap (λ t. count k (cond t xs (x ∷ without b xs)) + only b 1 k) (ne_eqb x b ne) ∙ omega (arith, rest))
    (cases_eq x b)

-- a queue has at most 63 tokens, and no more ready than in
queue_bounded : (q : Queue) → Bounded (queue_ways.means q)
queue_bounded q = record {
  few = omega (arith, counts_all q.line q.line_bytes, counts_all q.lent q.lent_bytes, q.few);
  backed = omega (arith, counts_all q.line q.line_bytes);
}

-- the four laws
pub queues_lend : Lends queue_ways
queues_lend = record {
  bounded = queue_bounded;
  taken = λ p b q h. record {
    byte = (subst AllBytes h.0 p.line_bytes).0;
    ins = λ k. sym (ap (count k) h.0 ∙ count_first k b q.line);
    outs = λ k. ap (count k) h.1 ∙ count_first k b p.lent;
    ready = omega (arith, ap length h.0);
  };
  returned = λ p b q h. record {
    byte = counted_byte b p.lent p.lent_bytes h.0;
    ins = λ k. ap (count k) h.1 ∙ count_append k p.line b;
    outs = λ k. ap (λ l. count k l + only b 1 k) h.2 ∙ count_without b k p.lent h.0;
  };
  unmoved = λ p x q h. record { ins = λ k. ap (λ z. count k z.line) h; outs = λ k. ap (λ z. count k z.lent) h };
}
