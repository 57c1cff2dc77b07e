-- What a tool does that obtains every token of a pool and then releases them all.
use Rattle.std.specs.Prelude.{◌≡◌, ℕ, ◌+◌, ◌≤◌, List, [], ◌∷◌, ◌++◌, map, reverse}
use Rattle.pool.specs.Chain.{Op, took_none, took, put_back, Did, Chain}
use Rattle.pool.specs.Meaning.{count}
use Rattle.pool.specs.Ways.{Ways}
use Rattle.drain.specs.declared.events.Event.{Event}
use Rattle.drain.specs.declared.events.Event.TheVariants.{Obtained, Nothing, Released}
use Rattle.drain.specs.declared.events.Standing.{Standing}
use Rattle.tool.specs.declared.grants.Grant.{Grant}

-- The pool q stands so: this many of the byte are in and out, and this many are ready.
pub record Stands {P : Type 0} (w : Ways P) (s : Standing) (q : P) : Type 0 where
  pub in_of_byte : s.tokens_in ≡ (w.means q).ins s.byte
  pub out_of_byte : s.tokens_out ≡ (w.means q).outs s.byte
  pub ready : s.ready ≡ (w.means q).ready

-- Which operation of the pool the event was.
abbrev pub op : Event → Op
op (Obtained s) = took s.byte
op Nothing = took_none
op (Released s) = put_back s.byte

-- The event tells how the pool q stands.
abbrev pub Shows : {P : Type 0} → Ways P → Event → P → Type 0
Shows w (Obtained s) q = Stands w s q
Shows w Nothing q = Unit {0}
Shows w (Released s) q = Stands w s q

-- The event led from p to q, and tells how the pool then stands.
abbrev pub Happened : {P : Type 0} → Ways P → Event → P → P → Type 0
Happened w e p q = Did w (op e) p q × Shows w e q

-- The bytes of some grants, in their order.
abbrev pub bytes_of : List Grant → List ℕ
bytes_of gs = map (λ g. g.byte) gs

-- The first half of a round led from p to q: the grants gs were obtained, and then none came.
pub record ObtainedAll {P : Type 0} (w : Ways P) (p : P) (gs : List Grant) (es : List Event) (q : P) : Type 0 where
  pub chain : Chain (Happened w) es p q
  pub ops : map op es ≡ map took (bytes_of gs) ++ took_none ∷ []
  pub out : (k : ℕ) → (w.means q).outs k ≡ (w.means p).outs k + count k (bytes_of gs)

-- The tokens of the grants gs are among those that are out of p.
abbrev pub HeldOf : {P : Type 0} → Ways P → P → List Grant → Type 0
HeldOf w p gs = (k : ℕ) → count k (bytes_of gs) ≤ (w.means p).outs k

-- The second half led from p to q: the grants gs were released, the last one first, and the events that tell it stand behind es.
pub record ReleasedAll {P : Type 0} (w : Ways P) (p : P) (gs : List Grant) (es fs : List Event) (q : P) : Type 0 where
  pub new : List Event
  pub behind : fs ≡ es ++ new
  pub chain : Chain (Happened w) new p q
  pub ops : map op new ≡ map put_back (reverse (bytes_of gs))

-- Some bytes are obtained, then none comes, then the same are released, the last one first.
abbrev pub all_and_back : List ℕ → List Op
all_and_back bs = map took bs ++ took_none ∷ map put_back (reverse bs)

-- The events led from p to q, and are such a round.
pub record Drained {P : Type 0} (w : Ways P) (p : P) (es : List Event) (q : P) : Type 0 where
  pub chain : Chain (Happened w) es p q
  pub bytes : List ℕ
  pub round : map op es ≡ all_and_back bytes
