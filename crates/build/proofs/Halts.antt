-- What a halt leaves to do, turn by turn. Assumes nothing.
use Rattle.std.proofs.Common.{◌≡◌, ℕ, zero, suc, ◌+◌, ◌-◌, ◌<◌, ◌≤◌, Bool, true, false, not, ◌&&◌, eqb, List, [], ◌∷◌, ◌++◌, length, sym, refl, ap, ◌∙◌, subst, ⊎_elim, arith}
use native.Mathlib.Nat.{sub-zero}
use Rattle.law.proofs.Bounds.{child_ended, top_ended}
use Rattle.law.proofs.Moves.{after_child}
use Rattle.law.proofs.Views.{turned_here, turned_there}
use Rattle.law.specs.Answers.{Answers, answering}
use Rattle.law.specs.Sound.{state_of}
use Rattle.rules.specs.Builds.{Build, unbegun, at, is_running, running, running_jobs, with_node}
use Rattle.pool.specs.Ways.{Ways}
use Rattle.rules.proofs.Tales.{trees_ordered}
use Rattle.rules.specs.Calls.{noted as noting, on_build, stop, stop_all, end_all, halt_run}
use Rattle.rules.specs.Causes.{Ordered}
use Rattle.rules.specs.Ending.{ends_so, finish, end_by, end_node, make_end, is_over}
use Rattle.rules.specs.Lists.{numbers, those, put_if}
use Rattle.rules.specs.Plans.{Plan, is_make, all_makes}
use Rattle.rules.specs.Settling.{Store, Run}
use Rattle.rules.specs.Words.{is_ended}
use Rattle.rules.specs.declared.progress.State.{State}
use Rattle.rules.specs.declared.progress.State.TheVariants.{Failed}
use Rattle.rules.proofs.Backs.{make_ended, stop_plan}
use Rattle.rules.proofs.Held.{if_holds}
use Rattle.rules.proofs.Telling.{set_keeps}
use Rattle.schedule.specs.declared.cause.Cause.TheVariants as causes
use Rattle.std.proofs.lemmas.Bool.{and_parts, both_ways, cases_Bool, not-true, eqb-true, eqb-false, false≢true}
use Rattle.schedule.proofs.Buffers.{wrote_none}
use Rattle.schedule.specs.Buffers.{Wrote}
use Rattle.schedule.specs.declared.record.Record.TheVariants.{Halt}
use Rattle.build.proofs.Fitting.{fits}
use Rattle.build.proofs.Altering.{kept_both, kept_same, noted_build}
use Rattle.build.proofs.Leading.{leads_none, leads_both, leads_then, leads_as}
use Rattle.build.proofs.Steps.{noted_leads}
use Rattle.build.specs.Changes.{Noted, Remade, here, reach}
use Rattle.build.specs.Hands.{Backed}
use Rattle.build.specs.Leads.{Point, on, Leads}
use Rattle.build.specs.Models.{model, in_hand}
use Rattle.build.specs.Turning.{Kept}
use Rattle.build.specs.Turns.{runs_as_job}
use Rattle.build.specs.declared.work.Work.{Work}

-- one turn of a list of those that pass
pub those_turn : (p : ℕ → Bool) (n k : ℕ) (t : Bool) → k < n → p k ≡ t → those p (numbers k (n - k)) ≡ put_if t k (those p (numbers (k + 1) (n - (k + 1))))
those_turn p n k t less is =
    let more : n - k ≡ suc (n - (k + 1)) = omega arith in
    ap (λ j. those p (numbers k j)) more ∙ ap (λ u. put_if u k (those p (numbers (k + 1) (n - (k + 1))))) is

-- none is left
pub those_over : (p : ℕ → Bool) (n k : ℕ) → n ≤ k → those p (numbers k (n - k)) ≡ []
those_over p n k past = let none : n - k ≡ 0 = omega arith in ap (λ j. those p (numbers k j)) none

-- stopping changes no state
pub stop_states : (ms : List ℕ) (b : Build) (k : ℕ) → (at (stop_all ms b) k).state ≡ (at b k).state
stop_states [] b k = refl
stop_states (m ∷ ms) b k = stop_states ms (with_node b m (stop (at b m))) k ∙ set_keeps (λ x. x.state) b.nodes m (stop (at b m)) unbegun k refl

-- an end leaves every other job as it was, and the node itself ended
module _ {P : Type 0} (store : Store P) (t : Plan) (ord : Ordered t) where
  pub others_still : (fuel : ℕ) (how : State) (n : ℕ) (r : Run P) → r.build.plan ≡ t → length r.build.nodes ≡ t.nodes → n < t.nodes → is_ended how ≡ true → (j : ℕ) → is_make t j ≡ false → (j ≡ n → ⊥) → state_of (end_by store fuel how n r).build.nodes j ≡ state_of r.build.nodes j
  others_still zero how n r plan whole within ended j job apart = refl
  others_still (suc fuel) how n r plan whole within ended j job apart =
      if_holds (λ (q : Run P). state_of q.build.nodes j ≡ state_of r.build.nodes j) (eqb n 0) _ _
      (λ top.
      let zero_is = eqb-true n 0 top in
      let over = top_ended store how r ended (omega (arith, within, whole)) in
      subst (λ m. state_of (finish (ends_so how m r)).build.nodes j ≡ state_of r.build.nodes j) (sym zero_is) (turned_there over.turn j (λ e. apart (e ∙ sym zero_is))))
      (λ nested.
      let pos : 0 < n = omega (arith, eqb-false n 0 nested) in
      let m = r.build.plan.make n in
      let back = after_child store how n r in
      let c = child_ended store how n r ended (omega (arith, within, whole)) in
      let place = ord.placed n pos within in
      let same : t.make n ≡ m = ap (λ q. q.make n) (sym plan) in
      let here = turned_there c.turn j apart in
      if_holds (λ (q : Run P). state_of q.build.nodes j ≡ state_of r.build.nodes j) (is_over back.build m) _ _
      (λ _. others_still fuel (make_end (at back.build m)) m back (c.plan ∙ plan) (c.turn.long ∙ whole) (subst (λ k. k < t.nodes) same (omega (arith, place.0))) (make_ended (at back.build m)) j job (λ e. both_ways _ job (ap (is_make t) (e ∙ sym same) ∙ place.1)) ∙ here)
      (λ _. here))

  pub itself_ended : (how : State) (n : ℕ) (r : Run P) → r.build.plan ≡ t → length r.build.nodes ≡ t.nodes → n < t.nodes → is_ended how ≡ true → is_make t n ≡ false → state_of (end_node store how n r).build.nodes n ≡ how
  itself_ended how n r plan whole within ended job =
      if_holds (λ (q : Run P). state_of q.build.nodes n ≡ how) (eqb n 0) _ _
      (λ top. absurd (both_ways _ job (ap (is_make t) (eqb-true n 0 top) ∙ ord.top)))
      (λ nested.
      let pos : 0 < n = omega (arith, eqb-false n 0 nested) in
      let m = r.build.plan.make n in
      let back = after_child store how n r in
      let c = child_ended store how n r ended (omega (arith, within, whole)) in
      let place = ord.placed n pos within in
      let same : t.make n ≡ m = ap (λ q. q.make n) (sym plan) in
      if_holds (λ (q : Run P). state_of q.build.nodes n ≡ how) (is_over back.build m) _ _
      (λ _. others_still n (make_end (at back.build m)) m back (c.plan ∙ plan) (c.turn.long ∙ whole) (subst (λ k. k < t.nodes) same (omega (arith, place.0))) (make_ended (at back.build m)) n job (λ e. both_ways _ job (ap (is_make t) (e ∙ sym same) ∙ place.1)) ∙ turned_here c.turn)
      (λ _. turned_here c.turn))

-- the same tests, the same list
those_same : (p q : ℕ → Bool) (xs : List ℕ) → ((k : ℕ) → q k ≡ p k) → those q xs ≡ those p xs
those_same p q [] same = refl
those_same p q (x ∷ xs) same = ap (λ t. put_if t x (those q xs)) (same x) ∙ ap (put_if (p x) x) (those_same p q xs same)

-- the same jobs run once all makes are stopped
pub stop_jobs : (b : Build) → running_jobs (stop_all (all_makes b.plan) b) ≡ running_jobs b
stop_jobs b =
    let ms = all_makes b.plan in
    let plan = stop_plan ms b in
    ap (λ t. those (λ n. running (stop_all ms b) n && not (is_make t n)) (numbers 0 t.nodes)) plan
    ∙ those_same (λ n. running b n && not (is_make b.plan n)) (λ n. running (stop_all ms b) n && not (is_make b.plan n)) (numbers 0 b.plan.nodes) (λ k. ap (λ s. is_running s && not (is_make b.plan k)) (stop_states ms b k))

pub stop_tokens : (ms : List ℕ) (b : Build) → (stop_all ms b).tokens ≡ b.tokens
stop_tokens [] b = refl
stop_tokens (m ∷ ms) b = stop_tokens ms (with_node b m (stop (at b m)))

pub stop_keep : (ms : List ℕ) (b : Build) → (stop_all ms b).keep ≡ b.keep
stop_keep [] b = refl
stop_keep (m ∷ ms) b = stop_keep ms (with_node b m (stop (at b m)))

module _ {P : Type 0} (w : Ways P) where
  -- a change of the build alone
  pub remade_leads : (F : Build → Build) (e e' : Work) {p : P} {buffer : List ℕ} → model e' ≡ F (model e) → e'.written ≡ e.written → e.written ≤ length buffer → Leads w (on_build F) (λ r. r) (here e p buffer) (here e' p buffer)
  remade_leads F e e' {p} {buffer} is same inside = record {
    answers = [];
    asked = [];
    records = [];
    runs = λ coming ops rs. ap (λ d. on d coming ops rs) (sym is);
    pool = refl;
    wrote = subst (Wrote buffer e.written [] buffer) (sym same) (wrote_none buffer e.written inside);
  }

  -- after the end of job n every other job runs as before, and n does not
  module _ {x y : Point P} (n : ℕ) (l : Leads w (end_node answering (Failed causes.Halt) n) (λ r. r) x y) (plan : y.status.build.plan ≡ x.status.build.plan) (ord : Ordered x.status.build.plan) (whole : length x.status.build.nodes ≡ x.status.build.plan.nodes) (within : n < x.status.build.plan.nodes) (job : is_make x.status.build.plan n ≡ false) where
    abbrev start : Run Answers
    start = on x.status.build (l.answers ++ []) [] []

    ended : (end_node answering (Failed causes.Halt) n start).build ≡ y.status.build
    ended = ap (λ q. q.build) (l.runs [] [] [])

    pub runs_still : (j : ℕ) → (j ≡ n → ⊥) → runs_as_job y.status.build j ≡ runs_as_job x.status.build j
    runs_still j apart =
        let t = x.status.build.plan in
        ⊎_elim
        (λ make. none (running y.status.build j) _ (ap (λ q. is_make q j) plan ∙ make) ∙ sym (none (running x.status.build j) _ make))
        (λ other.
        let same : state_of y.status.build.nodes j ≡ state_of x.status.build.nodes j = ap (λ b. state_of b.nodes j) (sym ended) ∙ others_still answering t ord (suc n) (Failed causes.Halt) n start refl whole within refl j other apart in
        ap (λ s. is_running s && not (is_make y.status.build.plan j)) same ∙ ap (λ q. running x.status.build j && not (is_make q j)) plan)
        (cases_Bool (is_make t j))
      where
        none : (u v : Bool) → v ≡ true → (u && not v) ≡ false
        none true true e = refl
        none true false e = absurd (false≢true e)
        none false v e = refl

-- the makes below m are stopped, and the others are still to be
pub record Stopping (e : Work) (m : ℕ) (now : Work) : Type 0 where
  pub left : stop_all (those (is_make (model e).plan) (numbers m ((model e).plan.nodes - m))) (model now) ≡ stop_all (all_makes (model e).plan) (model e)
  pub plan : (model now).plan ≡ (model e).plan
  pub written : now.written ≡ e.written
  pub spent : reach now ≤ reach e

pub stopping_none : (e : Work) → Stopping e 0 e
stopping_none e = record { left = ap (λ n. stop_all (those (is_make (model e).plan) (numbers 0 n)) (model e)) (sub-zero (model e).plan.nodes); plan = refl; written = refl; spent = omega arith }

module _ {e now : Work} {m : ℕ} (s : Stopping e m now) (less : m < (model e).plan.nodes) where
  pub stopping_one : (next : Work) → true ≡ is_make (model now).plan m → Remade now (with_node (model now) m (stop (at (model now) m))) next → Stopping e (m + 1) next
  stopping_one next make r =
      let t = (model e).plan in
      let turn = those_turn (is_make t) t.nodes m true less (ap (λ q. is_make q m) (sym s.plan) ∙ sym make) in
      record {
        left = ap (stop_all (those (is_make t) (numbers (m + 1) (t.nodes - (m + 1))))) r.build ∙ sym (ap (λ l. stop_all l (model now)) turn) ∙ s.left;
        plan = ap (λ b. b.plan) r.build ∙ s.plan;
        written = r.written ∙ s.written;
        spent = omega (arith, r.spent, s.spent);
      }

  pub stopping_on : false ≡ is_make (model now).plan m → Stopping e (m + 1) now
  stopping_on job =
      let t = (model e).plan in
      let turn = those_turn (is_make t) t.nodes m false less (ap (λ q. is_make q m) (sym s.plan) ∙ sym job) in
      record { left = sym (ap (λ l. stop_all l (model now)) turn) ∙ s.left; plan = s.plan; written = s.written; spent = s.spent }

pub stopping_all : {e now : Work} {m : ℕ} → Stopping e m now → (model e).plan.nodes ≤ m → Remade e (stop_all (all_makes (model e).plan) (model e)) now
stopping_all {e} {now} {m} s past = record {
  build = sym (ap (λ l. stop_all l (model now)) (those_over (is_make (model e).plan) (model e).plan.nodes m past)) ∙ s.left;
  written = s.written;
  spent = s.spent;
}

module _ {P : Type 0} (w : Ways P) where
  -- the running jobs below n have ended, and the others are still to end
  pub record EndingJobs (e : Work) (p : P) (old : List ℕ) (n : ℕ) (now : Work) (q : P) (new : List ℕ) : Type 0 where
    pub left : Leads w (end_all answering (running_jobs (model e))) (end_all answering (those (runs_as_job (model e)) (numbers n ((model e).plan.nodes - n)))) (here e p old) (here now q new)
    pub kept : Kept w e (reach e) now q
    pub runs : (j : ℕ) → n ≤ j → runs_as_job (model now) j ≡ runs_as_job (model e) j

  pub ending_none : (e : Work) (p : P) (old : List ℕ) → Backed w p (in_hand e.tokens) → e.written ≤ length old → EndingJobs e p old 0 e p old
  ending_none e p old backed inside = record { left = subst (λ n. Leads w (end_all answering (running_jobs (model e))) (end_all answering (those (runs_as_job (model e)) (numbers 0 n))) (here e p old) (here e p old)) (sym (sub-zero (model e).plan.nodes)) (leads_none w _ (here e p old) inside); kept = kept_same w p e backed; runs = λ j from. refl }

  module _ {e : Work} {p : P} {old : List ℕ} {n : ℕ} {now : Work} {q : P} {new : List ℕ} (s : EndingJobs e p old n now q new) (less : n < (model e).plan.nodes) where
    pub ending_one : (next : Work) (q' : P) (new' : List ℕ) → true ≡ runs_as_job (model now) n → Leads w (end_node answering (Failed causes.Halt) n) (λ r. r) (here now q new) (here next q' new') → Kept w now (reach now - 2) next q' → EndingJobs e p old (n + 1) next q' new'
    ending_one next q' new' on ended kept =
        let t = (model e).plan in
        let b = model e in
        let turn = those_turn (runs_as_job b) t.nodes n true less (sym (s.runs n (omega arith)) ∙ sym on) in
        let rest = those (runs_as_job b) (numbers (n + 1) (t.nodes - (n + 1))) in
        let parts = and_parts (running (model now) n) (not (is_make (model now).plan n)) (sym on) in
        let inside = subst (λ x. n < x.nodes) (sym s.kept.plan) less in
        record {
          left = leads_both w (subst (λ l. Leads w (end_all answering (running_jobs b)) (end_all answering l) (here e p old) (here now q new)) turn s.left) (leads_then w (end_all answering rest) ended);
          kept = kept_both (reach e) (λ h. omega arith) s.kept kept;
          runs = λ j from. runs_still w n ended kept.plan (trees_ordered now.tree) (fits now).whole inside (not-true _ parts.1) j (λ is. omega arith) ∙ s.runs j (omega arith);
        }

    pub ending_on : false ≡ runs_as_job (model now) n → EndingJobs e p old (n + 1) now q new
    ending_on off =
        let t = (model e).plan in
        let b = model e in
        let turn = those_turn (runs_as_job b) t.nodes n false less (sym (s.runs n (omega arith)) ∙ sym off) in
        record {
          left = subst (λ l. Leads w (end_all answering (running_jobs b)) (end_all answering l) (here e p old) (here now q new)) turn s.left;
          kept = s.kept;
          runs = λ j from. s.runs j (omega arith);
        }

  pub ending_all : {e : Work} {p : P} {old : List ℕ} {n : ℕ} {now : Work} {q : P} {new : List ℕ} → EndingJobs e p old n now q new → (model e).plan.nodes ≤ n → Leads w (end_all answering (running_jobs (model e))) (λ r. r) (here e p old) (here now q new)
  ending_all {e} {p} {old} {n} {now} {q} {new} s past = subst (λ l. Leads w (end_all answering (running_jobs (model e))) (end_all answering l) (here e p old) (here now q new)) (those_over (runs_as_job (model e)) (model e).plan.nodes n past) s.left

  -- the whole halt, from its parts
  pub halt_leads : (e e₁ e₂ : Work) {p q : P} {old mid new : List ℕ} (e₃ : Work) → Noted e old Halt e₁ mid → model e₂ ≡ stop_all (all_makes (model e₁).plan) (model e₁) → e₂.written ≡ e₁.written → e₁.written ≤ length mid → Leads w (end_all answering (running_jobs (model e₂))) (λ r. r) (here e₂ p mid) (here e₃ q new) → Leads w (halt_run answering) (λ r. r) (here e p old) (here e₃ q new)
  halt_leads e e₁ e₂ {p} {q} {old} {mid} {new} e₃ noted is same inside ended =
      let F : Build → Build = λ b. stop_all (all_makes b.plan) b in
      let first : Leads w (noting Halt) (λ r. r) (here e p old) (here e₁ p mid) = noted_leads w Halt noted in
      let second : Leads w (on_build F) (λ r. r) (here e₁ p mid) (here e₂ p mid) = remade_leads w F e₁ e₂ is same inside in
      let L = running_jobs (model e₂) in
      let build-same : model e₁ ≡ model e = noted_build noted in
      let jobs : L ≡ running_jobs (model e) = ap running_jobs is ∙ stop_jobs (model e₁) ∙ ap running_jobs build-same in
      let both = leads_both w (leads_then w (on_build F) first) second in
      let all = leads_both w (leads_then w (end_all answering L) both) ended in
      leads_as w (halt_run answering) (λ r. r) (λ c o rs. ap (λ l. end_all answering l (on_build F (noting Halt (on (model e) c o rs)))) (sym jobs)) (λ c o rs. refl) all
