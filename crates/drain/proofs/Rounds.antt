-- One obtain or release more in a round. Assumes nothing.
use Rattle.std.proofs.Common.{◌≡◌, ℕ, ◌+◌, ◌<◌, List, [], ◌∷◌, ◌++◌, map, reverse, length, sym, refl, ap, ◌∙◌, subst, append_assoc, append-nil, arith}
use Rattle.pool.specs.Chain.{took_none, took, put_back, Chain}
use Rattle.pool.specs.Meaning.{Taken, Returned, count}
use Rattle.pool.specs.Ways.{Ways}
use Rattle.pool.proofs.Chains.{chain_append, chain_more}
use Rattle.pool.proofs.Counts.{count_append}
use Rattle.std.proofs.lemmas.List.{reverse-append, map_push, map-append}
use Rattle.std.proofs.lemmas.Bool.Decides.{nat_tests}
use Rattle.tool.specs.declared.grants.Grant.{Grant}
use Rattle.drain.specs.Draining.{Happened, Stands, op, bytes_of, ObtainedAll, ReleasedAll, HeldOf, Drained}
use Rattle.drain.specs.declared.events.Event.{Event}
use Rattle.drain.specs.declared.events.Event.TheVariants.{Obtained, Nothing, Released}
use Rattle.drain.specs.declared.events.Standing.{Standing}

bytes_push : (gs : List Grant) (g : Grant) → bytes_of (gs ++ g ∷ []) ≡ bytes_of gs ++ g.byte ∷ []
bytes_push gs g = map_push (λ h. h.byte) gs g

module _ {P : Type 0} (w : Ways P) (p : P) where
  -- the grants gs were obtained so far, as es tell, from p to q
  pub record Obtaining (gs : List Grant) (es : List Event) (q : P) : Type 0 where
    pub chain : Chain (Happened w) es p q
    pub ops : map op es ≡ map took (bytes_of gs)
    pub out : (k : ℕ) → (w.means q).outs k ≡ (w.means p).outs k + count k (bytes_of gs)

  pub obtaining_none : (gs : List Grant) (es : List Event) → length gs ≡ 0 → length es ≡ 0 → Obtaining gs es p
  unfolding count
  obtaining_none [] [] hg he = record { chain = refl; ops = refl; out = λ k. omega arith }
  obtaining_none (g ∷ gs) es hg he = absurd (omega arith)
  obtaining_none [] (e ∷ es) hg he = absurd (omega arith)

  pub obtaining_more : (gs hs : List Grant) (es fs : List Event) (m q : P) (g : Grant) (s : Standing) → Obtaining gs es m → w.gave m g.byte q → Taken (w.means m) g.byte (w.means q) → s.byte ≡ g.byte → Stands w s q → hs ≡ gs ++ g ∷ [] → fs ≡ es ++ Obtained s ∷ [] → Obtaining hs fs q
  obtaining_more gs hs es fs m q g s so gave taken same stands held told =
      subst (λ l. Obtaining l fs q) (sym held) (subst (λ l. Obtaining (gs ++ g ∷ []) l q) (sym told) (record {
        chain = chain_more (Happened w) es (Obtained s) p m q so.chain (subst (λ b. w.gave m b q) (sym same) gave, stands);
        ops = map_push op es (Obtained s) ∙ (λ i. so.ops i ++ took (same i) ∷ []) ∙ sym (ap (map took) (bytes_push gs g) ∙ map_push took (bytes_of gs) g.byte);
        out = λ k. let more = ap (count k) (bytes_push gs g) ∙ count_append k (bytes_of gs) g.byte in omega (arith, so.out k, taken.outs k);
      }))

  pub obtaining_all : (gs : List Grant) (es fs : List Event) (q : P) → Obtaining gs es q → (w.means q).ready ≡ 0 → fs ≡ es ++ Nothing ∷ [] → ObtainedAll w p gs fs q
  obtaining_all gs es fs q so idle told =
      subst (λ l. ObtainedAll w p gs l q) (sym told) (record {
        chain = chain_more (Happened w) es Nothing p q q so.chain ((idle, refl), tt);
        ops = map_push op es Nothing ∙ ap (λ l. l ++ took_none ∷ []) so.ops;
        out = so.out;
      })

  -- of the grants all, gs are left to be released, as the events behind es tell, from p to q
  pub record Releasing (all gs : List Grant) (es fs : List Event) (q : P) : Type 0 where
    pub new : List Event
    pub behind : fs ≡ es ++ new
    pub chain : Chain (Happened w) new p q
    pub ops : map op new ++ map put_back (reverse (bytes_of gs)) ≡ map put_back (reverse (bytes_of all))
    pub held : HeldOf w q gs

  pub releasing_none : (gs : List Grant) (es : List Event) → HeldOf w p gs → Releasing gs gs es es p
  releasing_none gs es held = record { new = []; behind = sym (append-nil es); chain = refl; ops = refl; held = held }

  -- the last grant that is left is one of those that are out
  pub last_is_out : (all gs hs : List Grant) (es fs : List Event) (m : P) (g : Grant) → Releasing all gs es fs m → gs ≡ hs ++ g ∷ [] → 0 < (w.means m).outs g.byte
  last_is_out all gs hs es fs m g so last =
      let b = g.byte in
      let there = ap (count b) (ap bytes_of last ∙ bytes_push hs g) ∙ count_append b (bytes_of hs) b in
      let held = so.held b in
      grind (arith, nat_tests)

  pub releasing_more : (all gs hs : List Grant) (es fs fs' : List Event) (m q : P) (g : Grant) (s : Standing) → Releasing all gs es fs m → gs ≡ hs ++ g ∷ [] → w.back m g.byte q → Returned (w.means m) g.byte (w.means q) → s.byte ≡ g.byte → Stands w s q → fs' ≡ fs ++ Released s ∷ [] → Releasing all hs es fs' q
  releasing_more all gs hs es fs fs' m q g s so last back returned same stands told =
      let left : reverse (bytes_of gs) ≡ g.byte ∷ reverse (bytes_of hs) = ap reverse (ap bytes_of last ∙ bytes_push hs g) ∙ reverse-append (bytes_of hs) (g.byte ∷ []) in
      record {
        new = so.new ++ Released s ∷ [];
        behind = told ∙ ap (λ l. l ++ Released s ∷ []) so.behind ∙ append_assoc es so.new (Released s ∷ []);
        chain = chain_more (Happened w) so.new (Released s) p m q so.chain (subst (λ b. w.back m b q) (sym same) back, stands);
        ops = ap (λ l. l ++ map put_back (reverse (bytes_of hs))) (map_push op so.new (Released s)) ∙ append_assoc (map op so.new) (put_back s.byte ∷ []) (map put_back (reverse (bytes_of hs))) ∙ ap (λ b. map op so.new ++ put_back b ∷ map put_back (reverse (bytes_of hs))) same ∙ sym (ap (λ l. map op so.new ++ map put_back l) left) ∙ so.ops;
        held = λ k. let there = ap (count k) (ap bytes_of last ∙ bytes_push hs g) ∙ count_append k (bytes_of hs) g.byte in omega (arith, so.held k, returned.outs k);
      }

  pub releasing_all : (all gs : List Grant) (es fs : List Event) (q : P) → Releasing all gs es fs q → length gs ≡ 0 → ReleasedAll w p all es fs q
  releasing_all all [] es fs q so none_left = record {
    new = so.new;
    behind = so.behind;
    chain = so.chain;
    ops = sym (append-nil (map op so.new)) ∙ so.ops;
  }
  releasing_all all (g ∷ gs) es fs q so none_left = absurd (omega arith)

  -- the two halves are a round
  pub round : (gs : List Grant) (es fs : List Event) (m q : P) → ObtainedAll w p gs es m → ReleasedAll w m gs es fs q → Drained w p fs q
  round gs es fs m q first second =
      subst (λ l. Drained w p l q) (sym second.behind) (record {
        chain = chain_append (Happened w) es second.new p m q first.chain second.chain;
        bytes = bytes_of gs;
        round = map-append op es second.new ∙ (λ i. first.ops i ++ second.ops i) ∙ append_assoc (map took (bytes_of gs)) (took_none ∷ []) (map put_back (reverse (bytes_of gs)));
      })
