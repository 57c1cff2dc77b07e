-- The way up after an end. Assumes nothing.
use Rattle.std.proofs.Common.{◌≡◌, ℕ, zero, suc, ◌<◌, ◌≤◌, Bool, true, false, cond, eqb, List, [], ◌∷◌, ◌++◌, length, Some, None, Ok, Err, Option, Result, is_err, sym, refl, ap, ◌∙◌, subst, append-nil, arith}
use Rattle.law.specs.Answers.{Answers, answering}
use Rattle.pool.specs.Chain.{Op}
use Rattle.pool.specs.Ways.{Ways}
use Rattle.rules.specs.Builds.{Build, at, is_running, with_node}
use Rattle.rules.specs.Causes.{Ordered}
use Rattle.rules.specs.Ending.{goes_back, put_found, put_one, ends_so, mark, marked, finish, is_over, make_end, end_by}
use Rattle.rules.specs.Events.{state_of}
use Rattle.rules.specs.Lists.{if_so, is_some}
use Rattle.rules.specs.Plans.{Plan}
use Rattle.rules.specs.Settling.{Store, Run}
use Rattle.rules.specs.declared.progress.State.{State}
use Rattle.rules.specs.declared.progress.State.TheVariants.{Waiting, Running, Good, Failed}
use Rattle.rules.specs.Builds.{Held}
use Rattle.schedule.specs.Buffers.{Wrote}
use Rattle.schedule.specs.Records.{bytes}
use Rattle.schedule.specs.declared.cause.Cause.{Cause}
use Rattle.schedule.specs.declared.record.Record.{Record}
use Rattle.schedule.specs.declared.record.Record.TheVariants.{Finished}
use Rattle.schedule.proofs.Buffers.{wrote_none}
use Rattle.std.proofs.lemmas.Bool.{and_parts, eqb-false, eq-eqb, ne_eqb, false≢true}
use Rattle.build.specs.Ended.{ended_build, ended_record, marked_build}
use Rattle.build.specs.Leads.{Point, on, Leads}
use Rattle.build.proofs.Leading.{leads_as}
use Rattle.build.proofs.Settles.{point}

pub running_state : (s : State) → is_running s ≡ true → s ≡ Running
running_state Waiting e = absurd (false≢true e)
running_state Running e = refl
running_state Good e = absurd (false≢true e)
running_state (Failed c) e = absurd (false≢true e)

module _ {P : Type 0} (w : Ways P) (b : Build) (how : Result Unit Cause) (n : ℕ) where
  ends_as : (coming : List ℕ) (ops : List Op) (rs : List Record) → ends_so (state_of how) n (on b coming ops rs) ≡ on (ended_build how n b) coming ops (ended_record how n ∷ rs)
  ends_as coming ops rs = split how
    where
      split : (h : Result Unit Cause) → ends_so (state_of h) n (on b coming ops rs) ≡ on (ended_build h n b) coming ops (ended_record h n ∷ rs)
      split (Ok _) = refl
      split (Err c) = refl

  -- node n ended, with its record
  pub ends_leads : (b' : Build) {p : P} {old new : List ℕ} {from to : ℕ} → b' ≡ ended_build how n b → Wrote old from (bytes (ended_record how n)) new to → Leads w (ends_so (state_of how) n) (λ r. r) (point b from p old) (point b' to p new)
  ends_leads b' {p} {old} {new} {from} {to} is wrote = record {
    answers = [];
    asked = [];
    records = ended_record how n ∷ [];
    runs = λ coming ops rs. ends_as coming ops rs ∙ ap (λ d. on d coming ops (ended_record how n ∷ rs)) (sym is);
    pool = refl;
    wrote = subst (λ l. Wrote old from l new to) (sym (append-nil (bytes (ended_record how n)))) wrote;
  }

  marks_as : (m : ℕ) (coming : List ℕ) (ops : List Op) (rs : List Record) → mark (state_of how) m n (on b coming ops rs) ≡ on (marked_build how m n b) coming ops rs
  marks_as m coming ops rs = split how
    where
      split : (h : Result Unit Cause) → mark (state_of h) m n (on b coming ops rs) ≡ on (marked_build h m n b) coming ops rs
      split (Ok _) = refl
      split (Err c) = refl

  -- its make is marked
  pub mark_leads : (m : ℕ) (b' : Build) {p : P} {buffer : List ℕ} {from to : ℕ} → b' ≡ marked_build how m n b → to ≡ from → from ≤ length buffer → Leads w (mark (state_of how) m n) (λ r. r) (point b from p buffer) (point b' to p buffer)
  mark_leads m b' {p} {buffer} {from} {to} is same inside = record {
    answers = [];
    asked = [];
    records = [];
    runs = λ coming ops rs. marks_as m coming ops rs ∙ ap (λ d. on d coming ops rs) (sym is);
    pool = refl;
    wrote = subst (λ k. Wrote buffer from [] buffer k) (sym same) (wrote_none buffer from inside);
  }

-- the build is finished
pub finish_leads : {P : Type 0} (w : Ways P) (b b' : Build) {p : P} {old new : List ℕ} {from to : ℕ} → b' ≡ b → Wrote old from (bytes (Finished (cond (is_some (at b 0).first_failed) 1 0))) new to → Leads w finish (λ r. r) (point b from p old) (point b' to p new)
finish_leads w b b' is wrote = record {
  answers = [];
  asked = [];
  records = Finished (cond (is_some (at b 0).first_failed) 1 0) ∷ [];
  runs = λ coming ops rs. ap (λ d. on d coming ops (Finished (cond (is_some (at b 0).first_failed) 1 0) ∷ rs)) (sym is);
  pool = refl;
  wrote = wrote;
}

-- one of two ways, the second told otherwise
if_same : {A : Type 0} (t : Bool) (x y z : Unit {0} → A) → (t ≡ false → y tt ≡ z tt) → if_so t x y ≡ if_so t x z
if_same true x y z h = refl
if_same false x y z h = h refl

if_first : {A : Type 0} (t : Bool) (x y z : Unit {0} → A) → x tt ≡ y tt → if_so t x z ≡ if_so t y z
if_first true x y z h = h
if_first false x y z h = refl

module _ {P : Type 0} (store : Store P) where
  -- the tree stays
  ends_plan : (how : State) (n : ℕ) (r : Run P) → (ends_so how n r).build.plan ≡ r.build.plan
  ends_plan Waiting n r = refl
  ends_plan Running n r = refl
  ends_plan Good n r = refl
  ends_plan (Failed c) n r = refl

  put_plan : (m : ℕ) (o : Option (ℕ × List Held)) (r : Run P) → (put_found store m o r).build.plan ≡ r.build.plan
  put_plan m None r = refl
  put_plan m (Some x) r = refl

  mark_plan : (how : State) (m n : ℕ) (r : Run P) → (mark how m n r).build.plan ≡ r.build.plan
  mark_plan Waiting m n r = refl
  mark_plan Running m n r = refl
  mark_plan Good m n r = refl
  mark_plan (Failed c) m n r = refl

  -- as many turns as the number of the node and one more suffice
  pub end_enough : (t : Plan) → Ordered t → (f g : ℕ) (how : State) (n : ℕ) (r : Run P) → r.build.plan ≡ t → n < t.nodes → n < f → n < g → end_by store f how n r ≡ end_by store g how n r
  end_enough t ord zero g how n r same inside few more = absurd (omega arith)
  end_enough t ord (suc f) zero how n r same inside few more = absurd (omega arith)
  end_enough t ord (suc f) (suc g) how n r same inside few more =
      let ended = ends_so how n r in
      let m = r.build.plan.make n in
      let put = put_one store m ended in
      let back = mark how m n put in
      if_same (eqb n 0) (λ _. finish ended)
      (λ _. if_so (is_over back.build m) (λ _. end_by store f (make_end (at back.build m)) m back) (λ _. back))
      (λ _. if_so (is_over back.build m) (λ _. end_by store g (make_end (at back.build m)) m back) (λ _. back))
      (λ nested.
      let pos : 0 < n = omega (arith, eqb-false n 0 nested) in
      let below : m < n = subst (λ p. p.make n < n) (sym same) (ord.placed n pos inside).0 in
      let plan : back.build.plan ≡ t = mark_plan how m n put ∙ put_plan m (goes_back m ended.build.tokens) ended ∙ ends_plan how n r ∙ same in
      if_first (is_over back.build m) _ _ (λ _. back) (end_enough t ord f g (make_end (at back.build m)) m back plan (omega arith) (omega arith) (omega arith)))

module _ {P : Type 0} (w : Ways P) (how : State) (n : ℕ) (x y : Point P) where
  -- what is left when the child has ended: its make ends if it is over
  abbrev pub upwards : ℕ → Run Answers → Run Answers
  upwards m r = if_so (is_over r.build m) (λ _. end_by answering n (make_end (at r.build m)) m r) (λ _. r)

  child_leads : (n ≡ 0 → ⊥) → (m : ℕ) → x.status.build.plan.make n ≡ m → Leads w (λ r. mark how m n (put_one answering m (ends_so how n r))) (λ r. r) x y → Leads w (end_by answering (suc n) how n) (upwards m) x y
  child_leads nested m make a = record {
    answers = a.answers;
    asked = a.asked;
    records = a.records;
    runs = λ coming ops rs. begun (on x.status.build (a.answers ++ coming) ops rs) make ∙ ap (upwards m) (a.runs coming ops rs);
    pool = a.pool;
    wrote = a.wrote;
  }
    where
      begun : (r : Run Answers) → r.build.plan.make n ≡ m → end_by answering (suc n) how n r ≡ upwards m (mark how m n (put_one answering m (ends_so how n r)))
      begun r e =
          ap (λ t. if_so t (λ _. finish (ends_so how n r)) (λ _. upwards (r.build.plan.make n) (mark how (r.build.plan.make n) n (put_one answering (r.build.plan.make n) (ends_so how n r))))) (ne_eqb n 0 nested)
          ∙ ap (λ k. upwards k (mark how k n (put_one answering k (ends_so how n r)))) e

  -- its make goes on
  pub stays_leads : (n ≡ 0 → ⊥) → (m : ℕ) → x.status.build.plan.make n ≡ m → is_over y.status.build m ≡ false → Leads w (λ r. mark how m n (put_one answering m (ends_so how n r))) (λ r. r) x y → Leads w (end_by answering (suc n) how n) (λ r. r) x y
  stays_leads nested m make over a =
      leads_as w (end_by answering (suc n) how n) (λ r. r) (λ c o rs. refl)
      (λ c o rs. let r = on y.status.build c o rs in ap (λ t. if_so t (λ _. end_by answering n (make_end (at r.build m)) m r) (λ _. r)) over)
      (child_leads nested m make a)

  -- its make is over
  pub over_leads : (n ≡ 0 → ⊥) → (m : ℕ) → x.status.build.plan.make n ≡ m → Ordered y.status.build.plan → m < y.status.build.plan.nodes → m < n → is_over y.status.build m ≡ true → (s : State) → s ≡ make_end (at y.status.build m) → Leads w (λ r. mark how m n (put_one answering m (ends_so how n r))) (λ r. r) x y → Leads w (end_by answering (suc n) how n) (end_by answering (suc m) s m) x y
  over_leads nested m make ord inside below over s is a =
      leads_as w (end_by answering (suc n) how n) (end_by answering (suc m) s m) (λ c o rs. refl)
      (λ c o rs.
      let r = on y.status.build c o rs in
      ap (λ t. if_so t (λ _. end_by answering n (make_end (at r.build m)) m r) (λ _. r)) over
      ∙ end_enough answering y.status.build.plan ord n (suc m) (make_end (at r.build m)) m r refl inside below (omega arith)
      ∙ ap (λ k. end_by answering (suc m) k m r) (sym is))
      (child_leads nested m make a)

-- the top make ends
pub top_leads : {P : Type 0} (w : Ways P) (how : State) (n : ℕ) (x y : Point P) → n ≡ 0 → Leads w (λ r. finish (ends_so how n r)) (λ r. r) x y → Leads w (end_by answering (suc n) how n) (λ r. r) x y
top_leads w how n x y top a =
    leads_as w (end_by answering (suc n) how n) (λ r. r)
    (λ c o rs. let r = on x.status.build c o rs in ap (λ t. if_so t (λ _. finish (ends_so how n r)) (λ _. upwards w how n x y (r.build.plan.make n) (mark how (r.build.plan.make n) n (put_one answering (r.build.plan.make n) (ends_so how n r))))) (eq-eqb n 0 top))
    (λ c o rs. refl) a

-- a mark leaves the tokens, the tree, and whether the build keeps going
pub marked_tokens : (how : Result Unit Cause) (m n : ℕ) (b : Build) → (marked_build how m n b).tokens ≡ b.tokens
marked_tokens (Ok _) m n b = refl
marked_tokens (Err c) m n b = refl

pub marked_plan : (how : Result Unit Cause) (m n : ℕ) (b : Build) → (marked_build how m n b).plan ≡ b.plan
marked_plan (Ok _) m n b = refl
marked_plan (Err c) m n b = refl

pub marked_keep : (how : Result Unit Cause) (m n : ℕ) (b : Build) → (marked_build how m n b).keep ≡ b.keep
marked_keep (Ok _) m n b = refl
marked_keep (Err c) m n b = refl

-- the make of a node that failed
pub marked_err : (how : Result Unit Cause) (m n : ℕ) (b : Build) → is_err how ≡ true → marked_build how m n b ≡ with_node b m (marked b.keep n (at b m))
marked_err (Ok _) m n b e = absurd (false≢true e)
marked_err (Err c) m n b e = refl

-- a make that is over is live
pub over_runs : (b : Build) (m : ℕ) → is_over b m ≡ true → (at b m).state ≡ Running
over_runs b m over = running_state (at b m).state (and_parts _ _ (and_parts _ _ over).0).0
