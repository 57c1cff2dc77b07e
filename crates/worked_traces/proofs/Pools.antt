-- Pools that can be computed with: the queue, the semaphore, and the layers over any such pool.
use Rattle.std.proofs.Common.{◌≡◌, ℕ, ◌+◌, ◌-◌, ◌<◌, ◌≤◌, true, false, cond, eqb, List, [], ◌∷◌, ◌++◌, length, Some, None, Option, refl, ap, ◌∙◌, subst, ⊎_elim, arith}
use Rattle.worked_traces.proofs.Players.{go_on, at_most?, same?, Player}
use Rattle.worked_traces.proofs.Queues.{not_first, counted_byte}
use Rattle.worked_traces.specs.Queues.{AllBytes, Queue, without, queue_ways}
use Rattle.layers.specs.LoadLimits.{limit_ready, limit_ways}
use Rattle.layers.specs.Quotas.{quota_ready, quota_ways}
use Rattle.pool.specs.Meaning.{count, most_tokens}
use Rattle.pool.specs.Ways.{Ways}
use Rattle.semaphore.specs.Semaphores.{plus, semaphore_ways}
use Rattle.std.proofs.lemmas.List.{length_push}
use Rattle.std.proofs.lemmas.Bool.{cases_eq, eq-eqb, ne_eqb}

-- one token less in a list that has it
length_without : (b : ℕ) (l : List ℕ) → 0 < count b l → length (without b l) + 1 ≡ length l
unfolding count
length_without b [] some = absurd (omega arith)
length_without b (x ∷ xs) some =
    ⊎_elim
    (λ e. ap (λ t. length (cond t xs (x ∷ without b xs)) + 1) (eq-eqb x b e) ∙ omega arith)
    (λ ne. let rest = length_without b xs (subst (λ n. 0 < n) (not_first b x xs ne) some) in
    ap (λ t. length (cond t xs (x ∷ without b xs)) + 1) (ne_eqb x b ne) ∙ omega (arith, rest))
    (cases_eq x b)

-- bytes stay bytes, without one of them
pub without_bytes : (b : ℕ) (l : List ℕ) → AllBytes l → AllBytes (without b l)
without_bytes b [] h = tt
without_bytes b (x ∷ xs) h =
    elim (eqb x b) as (λ t. AllBytes (cond t xs (x ∷ without b xs))) [ true ↦ h.1 | false ↦ (h.0, without_bytes b xs h.1) ]

-- and one more behind them
pub pushed_bytes : (b : ℕ) (l : List ℕ) → b < 256 → AllBytes l → AllBytes (l ++ b ∷ [])
pushed_bytes b [] byte h = (byte, tt)
pushed_bytes b (x ∷ xs) byte h = (h.0, pushed_bytes b xs byte h.1)

-- a token goes out: as many in all
pub out_few : (b : ℕ) (bs lent : List ℕ) → length (b ∷ bs) + length lent ≤ most_tokens → length bs + length (b ∷ lent) ≤ most_tokens
out_few b bs lent h = omega arith

-- the same of one that comes back
pub back_few : (b : ℕ) (line lent : List ℕ) → 0 < count b lent → length line + length lent ≤ most_tokens → length (line ++ b ∷ []) + length (without b lent) ≤ most_tokens
back_few b line lent some h = omega (arith, length_push line b, length_without b lent some)

-- a take of the first in line
abbrev pub take_first : (b : ℕ) (line lent : List ℕ) → length line + length lent ≤ most_tokens → AllBytes line → AllBytes lent → Option ((q : Queue) × ((line ≡ b ∷ q.line) × (q.lent ≡ b ∷ lent)))
take_first b [] lent few fits out = None
take_first b (x ∷ xs) lent few fits out =
    go_on (same? x b) λ e.
    Some (record { line = xs; lent = x ∷ lent; few = out_few x xs lent few; line_bytes = fits.1; lent_bytes = (fits.0, out) }, (ap (λ y. y ∷ xs) e, ap (λ y. y ∷ lent) e))

-- takes, puts and readings of a queue
abbrev pub queue_player : Player queue_ways
queue_player = record {
  give = λ b p. take_first b p.line p.lent p.few p.line_bytes p.lent_bytes;
  back = λ b p. go_on (at_most? 1 (count b p.lent)) λ some.
      Some (
        record {
          line = p.line ++ b ∷ [];
          lent = without b p.lent;
          few = back_few b p.line p.lent some p.few;
          line_bytes = pushed_bytes b p.line (counted_byte b p.lent p.lent_bytes some) p.line_bytes;
          lent_bytes = without_bytes b p.lent p.lent_bytes;
        },
        (some, refl, refl),
      );
  hear = λ x p. Some (p, refl);
}

-- as many tokens in all, in other places, still fit
pub sem_few : (m n k l : ℕ) → m + n ≤ 63 → m + n ≡ k + l → k + l ≤ 63
sem_few m n k l h e = omega arith

-- takes, puts and readings of a semaphore
abbrev pub semaphore_player : Player semaphore_ways
semaphore_player = record {
  give = λ b s.
      go_on (same? b plus) λ is.
      go_on (same? s.tokens_in (s.tokens_in - 1 + 1)) λ in_one.
      go_on (same? (s.tokens_in + s.tokens_out) (s.tokens_in - 1 + (s.tokens_out + 1))) λ e.
      Some (record { tokens_in = s.tokens_in - 1; tokens_out = s.tokens_out + 1; few = sem_few s.tokens_in s.tokens_out (s.tokens_in - 1) (s.tokens_out + 1) s.few e }, (is, in_one, refl));
  back = λ b s.
      go_on (same? b plus) λ is.
      go_on (same? s.tokens_out (s.tokens_out - 1 + 1)) λ out_one.
      go_on (same? (s.tokens_in + s.tokens_out) (s.tokens_in + 1 + (s.tokens_out - 1))) λ e.
      Some (record { tokens_in = s.tokens_in + 1; tokens_out = s.tokens_out - 1; few = sem_few s.tokens_in s.tokens_out (s.tokens_in + 1) (s.tokens_out - 1) s.few e }, (is, refl, out_one));
  hear = λ x s. Some (s, refl);
}

module _ {P : Type 0} {w : Ways P} (below : Player w) where
  -- of a quota over such a pool
  abbrev pub quota_player : Player (quota_ways w)
  quota_player = record {
    give = λ b s.
        go_on (at_most? 1 (quota_ready w s)) λ free.
        go_on (below.give b s.below) λ q.
        Some (record { below = q.0; most = s.most }, (free, q.1, refl));
    back = λ b s. go_on (below.back b s.below) λ q. Some (record { below = q.0; most = s.most }, (q.1, refl));
    hear = λ x s. go_on (below.hear x s.below) λ q. Some (record { below = q.0; most = s.most }, (q.1, refl));
  }

  -- of a load limit over such a pool
  abbrev pub limit_player : Player (limit_ways w)
  limit_player = record {
    give = λ b s.
        go_on (at_most? 1 (limit_ready w s)) λ free.
        go_on (below.give b s.below) λ q.
        Some (record { below = q.0; limit = s.limit; reading = s.reading }, (free, q.1, refl, refl));
    back = λ b s.
        go_on (below.back b s.below) λ q.
        Some (record { below = q.0; limit = s.limit; reading = s.reading }, (q.1, refl, refl));
    hear = λ x s.
        go_on (below.hear x s.below) λ q.
        Some (record { below = q.0; limit = s.limit; reading = x }, (q.1, refl, refl));
  }
