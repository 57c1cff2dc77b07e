-- The law, by following a trace call by call. Assumes the laws of the pool.
use Rattle.std.proofs.Common.{◌≡◌, ℕ, ◌+◌, ◌-◌, ◌<◌, ◌≤◌, Bool, true, not, eqb, ◌⊎◌, List, [], ◌∷◌, ◌++◌, reverse, length, take, drop, Some, None, Ok, Err, Option, Result, sym, refl, ap, ◌∙◌, subst, inl, inr, ⊎_elim, append-nil, arith}
use mathlib.Core.List.{reverse-reverse}
use Rattle.law.proofs.Accepting.{accepts, job_accepts}
use Rattle.law.proofs.Adding.{total_three, makes_hold_is, top_runs, one_job_more, none_on, none_held, over_so, good_job}
use Rattle.law.proofs.Bounds.{sizes, sizes_written, bytes_with}
use Rattle.law.proofs.Carried.{open_carried, poll_carried, step_carried, kill_carried, kill_due, kill_nested, halt_carried, stop_view}
use Rattle.law.proofs.Conserving.{in_hand, Whole, Conserves, keeping_conserved, last_op, asked_none}
use Rattle.law.proofs.Moves.{Moves, moves_keep}
use Rattle.law.proofs.Outcomes.{Books, Ready, Outcome, books_of, poll_outcome, step_outcome, kill_outcome, halt_outcome, open_outcome, poll_kept, step_kept, kill_kept, halt_kept}
use Rattle.law.proofs.Settles.{Stands}
use Rattle.law.proofs.Telling.{Kept, is_good}
use Rattle.law.specs.Answers.{Answers, answering, unasked}
use Rattle.law.specs.Calls.{Status, Request, step, kill, poll, halt, refusal_of, run_of, Called, Opened}
use Rattle.law.specs.Counts.{one_if, how_many, ends_well, records_of, is_step_of, works, accepted, got, gave_back, tools_hold, makes_hold}
use Rattle.law.specs.Law.{Law, AcceptedLast}
use Rattle.law.specs.Lending.{Lends}
use Rattle.law.specs.Sound.{entry, state_of, steps_left, Planned}
use Rattle.law.specs.Traces.{Event, loaded, obtained, released, wrote_records, Moment, just_opened, after_call, after_event, taken_up, laid_down, Trace, begin, call, load, obtain, release}
use Rattle.pool.specs.Chain.{took_none, Did, Chain}
use Rattle.pool.specs.Meaning.{total}
use Rattle.pool.specs.Ways.{Ways, Load}
use Rattle.pool.specs.declared.refusals.Refusal.{Refusal as PoolRefusal}
use Rattle.rules.specs.Builds.{Build, is_running, is_waiting}
use Rattle.rules.specs.Builds.{Held}
use Rattle.rules.specs.Calls.{noted, opening, open_run}
use Rattle.rules.specs.Plans.{Plan, is_make, needed, all_makes}
use Rattle.rules.specs.Settled.{NothingStarts}
use Rattle.rules.specs.Settling.{Run}
use Rattle.rules.specs.declared.progress.State.TheVariants.{Failed}
use Rattle.rules.specs.declared.refusal.Refusal.{Refusal}
use Rattle.schedule.proofs.Buffers.{wrote_between}
use Rattle.schedule.proofs.RoundTrip.{read_back}
use Rattle.schedule.specs.Buffers.{Wrote}
use Rattle.schedule.specs.Reading.{division, records_read}
use Rattle.schedule.specs.Records.{encoded}
use Rattle.schedule.specs.declared.cause.Cause.TheVariants as causes
use Rattle.schedule.specs.declared.record.Record.{Record}
use Rattle.schedule.specs.declared.record.Record.TheVariants.{Kill}
use Rattle.std.proofs.lemmas.Bool.{cases_Bool, cases_eq, both_ways}
use Rattle.tool.specs.Grants.{Obtain, Release}
use Rattle.tool.specs.declared.grants.Grant.{Grant}
use Rattle.tool.specs.declared.grants.Unreleased.{Unreleased}

-- the records of a call are read from its bytes as they were written
pub read_records : (old : List ℕ) (from : ℕ) (rs : List Record) (new : List ℕ) (to : ℕ) → Wrote old from (encoded (reverse rs)) new to → reverse (wrote_records from to new) ≡ rs
read_records old from rs new to w = ap (λ bs. reverse (records_read (division bs 0))) (wrote_between w) ∙ ap reverse (read_back (reverse rs)) ∙ reverse-reverse rs

-- nothing is read where nothing was written
pub read_none : (at : ℕ) (buffer : List ℕ) → wrote_records at at buffer ≡ []
read_none at buffer = let none : at - at ≡ 0 = omega arith in ap (λ n. records_read (division (take n (drop at buffer)) 0)) none

-- how many grants of byte k are in hand
abbrev grants : ℕ → List Grant → ℕ
grants k gs = how_many (λ g. eqb g.byte k) gs

grants_both : (k : ℕ) (front : List Grant) (g : Grant) (back : List Grant) → grants k (front ++ g ∷ back) ≡ one_if (eqb g.byte k) + grants k (front ++ back)
grants_both k [] g back = refl
grants_both k (x ∷ front) g back = omega (arith, grants_both k front g back)

module _ {P : Type 0} (w : Ways P) (lends : Lends w) (t : Plan) (start : ℕ → ℕ) where
  -- after an accepted call nothing is ready or nothing may start
  abbrev Idle : Moment P → Type 0
  Idle now = ((w.means now.pool).ready ≡ 0) ⊎ NothingStarts now.status.build

  pub record Follows (now : Moment P) : Type 0 where
    pub books : Books t now.status.build (records_of now.calls)
    pub room : now.status.written + bytes_with 3 t now.status.build.nodes ≤ needed t
    pub dones : (k : ℕ) → (entry now.status.build.nodes k).done ≡ accepted (is_step_of k) now.calls
    pub worked : steps_left t now.status.build.nodes + accepted works now.calls ≤ t.all_steps
    pub hands : (k : ℕ) → grants k now.hands + gave_back k now.calls ≡ got k now.calls
    pub sum : (k : ℕ) → (w.means now.pool).ins k + in_hand k now.status.build.tokens + grants k now.hands ≡ start k
    pub bytes : (k : ℕ) → 256 ≤ k → in_hand k now.status.build.tokens ≡ 0
    pub idle : AcceptedLast now.calls → Idle now

  -- where settling ended at an answer of none, nothing is ready
  stood : (r : Run Answers) (p q : P) → Stands answering r → Chain (Did w) (reverse r.pool.asked) p q → ((w.means q).ready ≡ 0) ⊎ NothingStarts r.build
  stood r p q (inl s) chain =
      let l = last_op w lends took_none s.0.asked p q (subst (λ ops. Chain (Did w) (reverse ops) p q) (asked_none s.0.coming s.0.asked r.pool s.1) chain) in
      inl (ap (λ x. (w.means x).ready) l.2.1 ∙ l.2.0)
  stood r p q (inr none) chain = inr none

  -- what an accepted call of the build comes to
  record Came (c : Request) (b : Build) (old : List Record) (written : ℕ) (p : P) (r : Run Answers) : Type 0 where
    books : Books t r.build (r.records ++ old)
    stands : Stands answering r
    fewer : steps_left t r.build.nodes + one_if (works c) ≤ steps_left t b.nodes
    dones : (k : ℕ) → (entry r.build.nodes k).done ≡ (entry b.nodes k).done + one_if (is_step_of k c)
    room : written + sizes r.records + bytes_with 3 t r.build.nodes ≤ needed t
    conserves : Conserves w lends p b.tokens r

  -- the run that a call begins with
  abbrev from_build : Build → List ℕ → Run Answers
  from_build b bytes = record { build = b; pool = unasked bytes; records = [] }

  module _ (b : Build) (old : List Record) (written : ℕ) (p : P) (bytes : List ℕ) (books : Books t b old) (few : (k : ℕ) → 256 ≤ k → in_hand k b.tokens ≡ 0) (room : written + bytes_with 3 t b.nodes ≤ needed t) where
    ready : Ready answering t written (from_build b bytes)
    ready = record { plan = books.plan; shape = books.shape; busy = books.busy; room = omega (arith, room) }

    kept : Kept answering old (from_build b bytes)
    kept = record { whole = books.shape.whole; begun = books.begun; told = books.told; finish = books.finish }

    -- nothing was taken yet
    unmoved : (ts : List Held) → ts ≡ b.tokens → (q : P) → q ≡ p → Whole w lends p b.tokens q ts
    unmoved ts same q is = record {
      sum = λ k. ap (λ x. (w.means x).ins k + in_hand k ts) is ∙ ap (λ l. (w.means p).ins k + in_hand k l) same;
      bytes = λ k past. ap (in_hand k) same ∙ few k past;
    }

    conserving : {first r : Run Answers} → Moves answering first r → Conserves w lends p b.tokens first → Conserves w lends p b.tokens r
    conserving moves h = moves_keep answering (Conserves w lends p b.tokens) (keeping_conserved w lends p b.tokens) moves h

    -- what a call comes to, by its parts
    together : (c : Request) → {used : ℕ} {on : ℕ → ℕ} {r : Run Answers} → Outcome answering t written used on (from_build b bytes) r → used ≡ one_if (works c) → ((k : ℕ) → on k ≡ one_if (is_step_of k c)) → Kept answering old r → Conserves w lends p b.tokens r → Came c b old written p r
    together c {used} {on} {r} o work steps k conserves = record {
      books = books_of answering old o.ready k;
      stands = o.stands;
      fewer = omega (arith, o.fewer, work);
      dones = λ i. o.dones i ∙ ap (λ x. (entry b.nodes i).done + x) (steps i);
      room = o.ready.room;
      conserves = conserves;
    }

    came : (c : Request) (outs : ℕ → ℕ) (buffer : ℕ) → refusal_of c b outs buffer ≡ None → Came c b old written p (run_of c (from_build b bytes))
    came (step n) outs buffer free =
        let r = from_build b bytes in
        let j = (job_accepts b books.shape outs buffer n free).1 in
        together (step n) (step_outcome answering t written n r ready j) refl (λ k. refl) (step_kept answering old r books.shape kept n j)
        (conserving (step_carried answering n r books.shape j).moves (λ q. unmoved b.tokens refl q))
    came (kill n) outs buffer free =
        let r = from_build b bytes in
        let j = (job_accepts b books.shape outs buffer n free).1 in
        together (kill n) (kill_outcome answering t written n r ready j) refl (λ k. refl) (kill_kept answering old r books.shape kept n j)
        (conserving (kill_carried answering n r books.shape j).moves
        ((keeping_conserved w lends p b.tokens).on_child (Failed causes.Kill) n (noted (Kill n) r) (kill_nested answering n r books.shape j) refl (kill_due answering n r books.shape j) (λ q. unmoved b.tokens refl q)))
    came poll outs buffer free =
        let r = from_build b bytes in
        together poll (poll_outcome answering t written r ready (accepts b outs buffer free).live) refl (λ k. refl) (poll_kept answering old r books.shape kept)
        (conserving (poll_carried answering r books.shape).moves (λ q. unmoved b.tokens refl q))
    came halt outs buffer free =
        let r = from_build b bytes in
        together halt (halt_outcome answering t written r ready (accepts b outs buffer free).live) refl (λ k. refl) (halt_kept answering old r books.shape kept books.busy)
        (conserving (halt_carried answering r books.shape books.busy).moves (λ q. unmoved _ (stop_view (all_makes b.plan) b).1 q))

  module _ {now : Moment P} (f : Follows now) where
    -- an accepted call
    follow_ok : (c : Request) (n : ℕ) (s : Status) (q : P) (old new : List ℕ) → Called w c now.status now.pool old (Ok n) s q new → Follows (after_call now c (Ok n) s q new)
    follow_ok c n s q old new (free, ran, ans) =
        let b = now.status.build in
        let rs = records_of now.calls in
        let r = run_of c (from_build b ran.answers) in
        let o = came b rs now.status.written now.pool ran.answers f.books f.bytes f.room c (w.means now.pool).outs (length old) free in
        let back = sym ran.build in
        let read : reverse (wrote_records now.status.written s.written new) ++ rs ≡ r.records ++ rs = ap (λ l. l ++ rs) (read_records old now.status.written r.records new s.written ran.wrote) in
        let whole = o.conserves q ran.pool in
        record {
          books = subst (λ l. Books t s.build l) (sym read) (subst (λ x. Books t x (r.records ++ rs)) back o.books);
          room = let end = ran.wrote.end in let long = sizes_written r.records in subst (λ x. s.written + bytes_with 3 t x.nodes ≤ needed t) back (omega (arith, o.room, end, long));
          dones = λ k. let d = o.dones k in let was = f.dones k in ap (λ x. (entry x.nodes k).done) ran.build ∙ omega (arith, d, was);
          worked = subst (λ x. steps_left t x.nodes + (one_if (works c) + accepted works now.calls) ≤ t.all_steps) back (omega (arith, o.fewer, f.worked));
          hands = f.hands;
          sum = λ k. subst (λ x. (w.means q).ins k + in_hand k x.tokens + grants k now.hands ≡ start k) back (let now-sum = whole.sum k in let was = f.sum k in omega (arith, now-sum, was));
          bytes = λ k past. ap (λ x. in_hand k x.tokens) ran.build ∙ whole.bytes k past;
          idle = λ _. subst (λ x. ((w.means q).ready ≡ 0) ⊎ NothingStarts x) back (stood r now.pool q o.stands ran.pool);
        }

    -- a refused call, which left everything as it was
    stayed : (c : Request) (e : Refusal) (new : List ℕ) → Follows (after_call now c (Err e) now.status now.pool new)
    stayed c e new =
        let rs = records_of now.calls in
        let none : reverse (wrote_records now.status.written now.status.written new) ++ rs ≡ rs = ap (λ l. reverse l ++ rs) (read_none now.status.written new) in
        record {
          books = subst (λ l. Books t now.status.build l) (sym none) f.books;
          room = f.room;
          dones = f.dones;
          worked = f.worked;
          hands = f.hands;
          sum = f.sum;
          bytes = f.bytes;
          idle = λ last. absurd last;
        }

    follow_call : (c : Request) (r : Result ℕ Refusal) (s : Status) (q : P) (old new : List ℕ) → Called w c now.status now.pool old r s q new → Follows (after_call now c r s q new)
    follow_call c (Ok n) s q old new d = follow_ok c n s q old new d
    follow_call c (Err e) s q old new d =
        subst (λ x. Follows (after_call now c (Err e) x q new)) (sym d.1) (subst (λ x. Follows (after_call now c (Err e) now.status x new)) (sym d.2) (stayed c e new))

    -- a call on the pool, by what it did to the tokens in it and in tools' hands
    moved : (e : Event) (gs : List Grant) (q : P) → (AcceptedLast (e ∷ now.calls) → ⊥) → records_of (e ∷ now.calls) ≡ records_of now.calls → ((k : ℕ) → accepted (is_step_of k) (e ∷ now.calls) ≡ accepted (is_step_of k) now.calls) → accepted works (e ∷ now.calls) ≡ accepted works now.calls → ((k : ℕ) → grants k gs + gave_back k (e ∷ now.calls) ≡ got k (e ∷ now.calls)) → ((k : ℕ) → (w.means q).ins k + grants k gs ≡ (w.means now.pool).ins k + grants k now.hands) → Follows (after_event now e gs q)
    moved e gs q apart records steps work held same = record {
      books = subst (λ l. Books t now.status.build l) (sym records) f.books;
      room = f.room;
      dones = λ k. f.dones k ∙ sym (steps k);
      worked = omega (arith, f.worked, work);
      hands = held;
      sum = λ k. let s = same k in let was = f.sum k in omega (arith, s, was);
      bytes = f.bytes;
      idle = λ last. absurd (apart last);
    }

    follow_load : (x : ℕ) (r : Result Unit PoolRefusal) (q : P) → Load w now.pool x r q → Follows (after_event now (loaded x r) now.hands q)
    follow_load x (Ok u) q d = moved (loaded x (Ok u)) now.hands q (λ l. l) refl (λ k. refl) refl f.hands (λ k. ap (λ i. i + grants k now.hands) ((lends.unmoved now.pool x q d.1).ins k))
    follow_load x (Err e) q d = moved (loaded x (Err e)) now.hands q (λ l. l) refl (λ k. refl) refl f.hands (λ k. ap (λ y. (w.means y).ins k + grants k now.hands) d.2)

    follow_obtain : (g : Option Grant) (q : P) → Obtain w now.pool g q → Follows (after_event now (obtained g) (taken_up g now.hands) q)
    follow_obtain None q d = moved (obtained None) now.hands q (λ l. l) refl (λ k. refl) refl f.hands (λ k. ap (λ y. (w.means y).ins k + grants k now.hands) d.1)
    follow_obtain (Some g) q d =
        moved (obtained (Some g)) (g ∷ now.hands) q (λ l. l) refl (λ k. refl) refl (λ k. let was = f.hands k in omega (arith, was))
        (λ k. let law = (lends.taken now.pool g.byte q d).ins k in omega (arith, law))

    follow_release : (front : List Grant) (g : Grant) (back : List Grant) → now.hands ≡ front ++ g ∷ back → (r : Result Unit Unreleased) (q : P) → Release w now.pool g r q → Follows (after_event now (released g r) (laid_down r front g back) q)
    follow_release front g back is (Ok u) q d =
        moved (released g (Ok u)) (front ++ back) q (λ l. l) refl (λ k. refl) refl
        (λ k. let was = f.hands k in let parts = ap (grants k) is ∙ grants_both k front g back in omega (arith, was, parts))
        (λ k. let law = (lends.returned now.pool g.byte q d).ins k in let parts = ap (grants k) is ∙ grants_both k front g back in omega (arith, law, parts))
    follow_release front g back is (Err e) q d =
        moved (released g (Err e)) (front ++ g ∷ back) q (λ l. l) refl (λ k. refl) refl
        (λ k. ap (λ l. grants k l + gave_back k now.calls) (sym is) ∙ f.hands k)
        (λ k. ap (λ y. (w.means y).ins k + grants k (front ++ g ∷ back)) d.3 ∙ ap (λ l. (w.means now.pool).ins k + grants k l) (sym is))

    -- what was followed is the law
    pub law_now : Law w t start now
    law_now =
        let k = f.books in
        let es = now.calls in
        let tools : (i : ℕ) → tools_hold i es ≡ grants i now.hands = λ i. let h = f.hands i in omega (arith, h) in
        let sum : (i : ℕ) → (w.means now.pool).ins i + makes_hold t i (records_of es) + tools_hold i es ≡ start i = λ i. ap (λ x. (w.means now.pool).ins i + x + tools_hold i es) (makes_hold_is k i) ∙ ap (λ x. (w.means now.pool).ins i + in_hand i now.status.build.tokens + x) (tools i) ∙ f.sum i in
        let all = total_three (w.means now.pool).ins (λ i. makes_hold t i (records_of es)) (λ i. tools_hold i es) start sum in
        record {
          conservation = sum;
          own = k.told.own;
          one_more = λ none. one_job_more k f.bytes (top_runs k none);
          within = ⊎_elim
              (λ on. let count = one_job_more k f.bytes on in omega (arith, count, all))
              (λ over. let none = none_on k over in omega (arith, none, all))
              (cases_Bool (is_running (state_of now.status.build.nodes 0)));
          told = λ n pos inside. record { on = sym (k.told.on n pos); begun = sym (k.told.starts n pos) };
          no_idle = f.idle;
          bounded = omega (arith, f.worked);
          clean = λ failed e.
              let over = over_so k failed e in (
                none_held k over.0,
                λ well n job.
                    let good = good_job k n job.0 job.1 (over.1 well) in
                    let pos : 0 < n = ⊎_elim (λ top. absurd (both_ways _ job.1 (ap (is_make t) top ∙ top_make k))) (λ far. omega (arith, far)) (cases_eq n 0) in
                    let ended : how_many (ends_well n) (records_of es) ≡ 1 = k.told.well n pos ∙ ap (λ s. one_if (is_good s)) good.0 in
                    record {
                      start = k.told.starts n pos ∙ ap (λ s. one_if (not (is_waiting s))) good.0;
                      end = omega (arith, ended);
                      steps = sym (f.dones n) ∙ good.1;
                    },
              );
        }
      where
        top_make : Books t now.status.build (records_of now.calls) → is_make t 0 ≡ true
        top_make k = subst (λ q. is_make q 0 ≡ true) k.plan k.shape.planned.ordered.top

  pub follow : {first now : Moment P} → Trace w first now → Follows first → Follows now
  follow begin f = f
  follow (call tr c r s q old new d) f = follow_call (follow tr f) c r s q old new d
  follow (load tr x r q d) f = follow_load (follow tr f) x r q d
  follow (obtain tr g q d) f = follow_obtain (follow tr f) g q d
  follow (release tr front g back is r q d) f = follow_release (follow tr f) front g back is r q d

-- just after an accepted open
pub follow_open : {P : Type 0} (w : Ways P) (lends : Lends w) (t : Plan) → Planned t → (keep : Bool) (before after : Status) (p q : P) (old new : List ℕ) (n : ℕ) → Opened w t keep before p old (Ok n) after q new → Follows w lends t (w.means p).ins (just_opened after q new)
follow_open w lends t planned keep before after p q old new n (free, ran, ans) =
    let first = opening t keep (total (w.means p).ins) (unasked ran.answers) in
    let r = open_run answering t keep (total (w.means p).ins) (unasked ran.answers) in
    let o = open_outcome answering t planned keep (total (w.means p).ins) (unasked ran.answers) in
    let back = sym ran.build in
    let read : reverse (wrote_records 0 after.written new) ++ [] ≡ r.records = append-nil _ ∙ read_records old 0 r.records new after.written ran.wrote in
    let none : Conserves w lends p [] first = λ x is. record { sum = λ k. ap (λ y. (w.means y).ins k + 0) is; bytes = λ k past. refl } in
    let whole = moves_keep answering (Conserves w lends p []) (keeping_conserved w lends p []) (open_carried answering t planned keep (total (w.means p).ins) (unasked ran.answers)).moves none q ran.pool in
    record {
      books = subst (λ l. Books t after.build l) (sym read) (subst (λ x. Books t x r.records) back o.books);
      room = let end = ran.wrote.end in let long = sizes_written r.records in subst (λ x. after.written + bytes_with 3 t x.nodes ≤ needed t) back (omega (arith, o.room, end, long));
      dones = λ k. ap (λ x. (entry x.nodes k).done) ran.build ∙ o.dones k;
      worked = subst (λ x. steps_left t x.nodes + 0 ≤ t.all_steps) back (omega (arith, o.fewer));
      hands = λ k. refl;
      sum = λ k. subst (λ x. (w.means q).ins k + in_hand k x.tokens + 0 ≡ (w.means p).ins k) back (let s = whole.sum k in omega (arith, s));
      bytes = λ k past. ap (λ x. in_hand k x.tokens) ran.build ∙ whole.bytes k past;
      idle = λ _. subst (λ x. ((w.means q).ready ≡ 0) ⊎ NothingStarts x) back (stood w lends t (w.means p).ins r p q o.stands ran.pool);
    }
