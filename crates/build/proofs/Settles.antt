-- One start after the other is settling. Assumes nothing.
use Rattle.std.proofs.Common.{◌≡◌, ℕ, zero, suc, ◌+◌, ◌<◌, ◌≤◌, true, List, [], ◌∷◌, length, Some, None, sym, refl, ap, ◌∙◌, arith}
use Rattle.law.specs.Answers.{Answers, answering}
use Rattle.pool.specs.Chain.{took_none, took}
use Rattle.pool.specs.Meaning.{Taken}
use Rattle.pool.specs.Ways.{Ways}
use Rattle.rules.specs.Builds.{Build, unbegun, at, is_waiting, in_state, with_state, with_tokens}
use Rattle.rules.specs.Settling.{Run, next_in_slot, next_with_token, try_slot, try_token, settle_by, settle}
use Rattle.rules.specs.Words.{Startable, Make}
use Rattle.rules.specs.declared.progress.State.{State}
use Rattle.rules.specs.declared.progress.State.TheVariants.{Waiting, Running, Good, Failed}
use Rattle.rules.specs.Settling.{Start}
use Rattle.rules.specs.Builds.{Held}
use Rattle.rules.proofs.Searches.{served}
use Rattle.rules.proofs.Starts.{child_inside}
use Rattle.schedule.specs.Buffers.{Wrote}
use Rattle.schedule.specs.Records.{bytes}
use Rattle.schedule.specs.declared.record.Record.TheVariants.{StartInSlot, StartWithToken}
use Rattle.schedule.proofs.Buffers.{wrote_none}
use Rattle.std.proofs.lemmas.Bool.{false≢true}
use Rattle.build.specs.Changes.{MayStart}
use Rattle.build.specs.Hands.{Backed}
use Rattle.build.specs.Leads.{Point, on, Leads, Ends}
use Rattle.build.specs.Rooms.{to_start, unstarted}
use Rattle.build.proofs.Handing.{in_hands_more}
use Rattle.build.proofs.Leading.{leads_both, leads_end}
use Rattle.build.proofs.Sums.{sum_set}

waiting_state : (s : State) → is_waiting s ≡ true → s ≡ Waiting
waiting_state Waiting e = refl
waiting_state Running e = absurd (false≢true e)
waiting_state Good e = absurd (false≢true e)
waiting_state (Failed c) e = absurd (false≢true e)

-- what the searches find may start
may_start : (b : Build) (s : Start) → Make b.plan s.make → Startable b s.make s.child → MayStart b s
may_start b s make start = record { make = make.0; child = child_inside b s.make s.child make.0 start; unbegun = waiting_state (at b s.child).state start.unbegun }

pub slot_may : (b : Build) (s : Start) → next_in_slot b ≡ Some s → MayStart b s
slot_may b s e = let found = (served b).slot s e in may_start b s found.make found.child

pub token_may : (b : Build) (s : Start) → next_with_token b ≡ Some s → MayStart b s
token_may b s e = let found = (served b).token s e in may_start b s found.make found.child

-- a start uses up a node that has not begun
pub fewer_to_start : (b : Build) (n : ℕ) → n < length b.nodes → (at b n).state ≡ Waiting → to_start (in_state b n Running).nodes + 1 ≡ to_start b.nodes
fewer_to_start b n inside is = omega (arith, sum_set (λ _ x. unstarted x.state) (with_state (at b n) Running) unbegun b.nodes n inside, ap unstarted is)

abbrev pub point : {P : Type 0} → Build → ℕ → P → List ℕ → Point P
point b n p buffer = record { status = record { build = b; written = n }; pool = p; buffer = buffer }

module _ {P : Type 0} (w : Ways P) (b : Build) where
  pub slot_leads : (b' : Build) (s : Start) {p : P} {old new : List ℕ} {from to : ℕ} → Some s ≡ next_in_slot b → b' ≡ in_state b s.child Running → Wrote old from (bytes (StartInSlot s.make s.child)) new to → (turns : ℕ) → Leads w (settle_by answering (suc turns)) (settle_by answering turns) (point b from p old) (point b' to p new)
  slot_leads b' s next is wrote turns = record {
    answers = [];
    asked = [];
    records = StartInSlot s.make s.child ∷ [];
    runs = λ coming ops rs.
        ap (λ o. try_slot answering o (on b coming ops rs) (settle_by answering turns)) (sym next)
        ∙ ap (λ d. settle_by answering turns (on d coming ops (StartInSlot s.make s.child ∷ rs))) (sym is);
    pool = refl;
    wrote = wrote;
  }

  pub token_leads : (b' : Build) (s : Start) (byte : ℕ) {p q : P} {old new : List ℕ} {from to : ℕ} → None ≡ next_in_slot b → Some s ≡ next_with_token b → w.gave p byte q → b' ≡ with_tokens (in_state b s.child Running) (record { by = s.make; byte = byte } ∷ b.tokens) → Wrote old from (bytes (StartWithToken s.make s.child byte)) new to → (turns : ℕ) → Leads w (settle_by answering (suc turns)) (settle_by answering turns) (point b from p old) (point b' to q new)
  token_leads b' s byte {p} {q} no_slot next gave is wrote turns = record {
    answers = byte ∷ [];
    asked = took byte ∷ [];
    records = StartWithToken s.make s.child byte ∷ [];
    runs = λ coming ops rs.
        ap (λ o. try_slot answering o (on b (byte ∷ coming) ops rs) (settle_by answering turns)) (sym no_slot)
        ∙ ap (λ o. try_token answering o (on b (byte ∷ coming) ops rs) (settle_by answering turns)) (sym next)
        ∙ ap (λ d. settle_by answering turns (on d coming (took byte ∷ ops) (StartWithToken s.make s.child byte ∷ rs))) (sym is);
    pool = (q, gave, refl);
    wrote = wrote;
  }

  -- nothing may start
  pub nothing_ends : (p : P) (buffer : List ℕ) (n turns : ℕ) → n ≤ length buffer → None ≡ next_in_slot b → None ≡ next_with_token b → Ends w (settle_by answering turns) (point b n p buffer) (point b n p buffer)
  nothing_ends p buffer n turns inside no_slot no_token = record {
    answers = [];
    asked = [];
    records = [];
    runs = λ ops rs. stays turns (on b [] ops rs) refl;
    pool = refl;
    wrote = wrote_none buffer n inside;
  }
    where
      stays : (turns : ℕ) (r : Run Answers) → r.build ≡ b → settle_by answering turns r ≡ r
      stays zero r e = refl
      stays (suc turns) r e =
          ap (λ o. try_slot answering o r (settle_by answering turns)) (ap next_in_slot e ∙ sym no_slot)
          ∙ ap (λ o. try_token answering o r (settle_by answering turns)) (ap next_with_token e ∙ sym no_token)

  -- no token comes
  pub none_ends : (s : Start) (p q : P) (buffer : List ℕ) (n turns : ℕ) → n ≤ length buffer → None ≡ next_in_slot b → Some s ≡ next_with_token b → ((w.means p).ready ≡ 0) × (q ≡ p) → 0 < turns → Ends w (settle_by answering turns) (point b n p buffer) (point b n q buffer)
  none_ends s p q buffer n zero inside no_slot next none some = absurd (omega arith)
  none_ends s p q buffer n (suc turns) inside no_slot next none some = record {
    answers = [];
    asked = took_none ∷ [];
    records = [];
    runs = λ ops rs.
        ap (λ o. try_slot answering o (on b [] ops rs) (settle_by answering turns)) (sym no_slot)
        ∙ ap (λ o. try_token answering o (on b [] ops rs) (settle_by answering turns)) (sym next);
    pool = (q, none, refl);
    wrote = wrote_none buffer n inside;
  }

-- a token more in hand, and out of the pool
pub backed_more : {P : Type 0} (w : Ways P) (p q : P) (h : Held) (hs : List Held) → Backed w p hs → Taken (w.means p) h.byte (w.means q) → Backed w q (h ∷ hs)
backed_more w p q h hs backed taken k = omega (arith, backed k, taken.outs k, in_hands_more k h hs)

module _ {P : Type 0} (w : Ways P) where
  -- so far x has settled to y, and there are turns enough for what is left
  pub record Settling (x y : Point P) : Type 0 where
    pub turns : ℕ
    pub leads : Leads w (settle answering) (settle_by answering turns) x y
    pub enough : to_start y.status.build.nodes ≤ turns

  pub settling_none : (x : Point P) → x.status.written ≤ length x.buffer → to_start x.status.build.nodes ≤ x.status.build.plan.nodes → Settling x x
  settling_none x inside few =
      record {
        turns = x.status.build.plan.nodes;
        leads = record { answers = []; asked = []; records = []; runs = λ coming ops rs. refl; pool = refl; wrote = wrote_none x.buffer x.status.written inside };
        enough = few;
      }

  pub settling_more : (x y z : Point P) → Settling x y → ((turns : ℕ) → Leads w (settle_by answering (suc turns)) (settle_by answering turns) y z) → to_start z.status.build.nodes + 1 ≡ to_start y.status.build.nodes → Settling x z
  settling_more x y z so turn fewer = more so.turns so.leads so.enough
    where
      more : (turns : ℕ) → Leads w (settle answering) (settle_by answering turns) x y → to_start y.status.build.nodes ≤ turns → Settling x z
      more zero leads enough = absurd (omega arith)
      more (suc turns) leads enough = record { turns = turns; leads = leads_both w leads (turn turns); enough = omega arith }

  pub settling_all : (x y z : Point P) → Settling x y → ((turns : ℕ) → to_start y.status.build.nodes ≤ turns → Ends w (settle_by answering turns) y z) → Ends w (settle answering) x z
  settling_all x y z so end = leads_end w so.leads (end so.turns so.enough)
