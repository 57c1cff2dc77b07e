-- The shape of a build through each start, step and end. Assumes nothing.
use Rattle.std.proofs.Common.{◌≡◌, ℕ, zero, suc, ◌+◌, ◌-◌, ◌<◌, Bool, true, false, cond, not, ◌&&◌, eqb, ◌⊎◌, List, [], length, set, sym, refl, ap, ◌∙◌, subst, inl, inr, ⊎_elim, arith, length-set}
use Rattle.law.proofs.Running.{run_wait, run_ended, wait_ended, ended_stops, waits_not_running, one_true, one_false, child_eqb, none_runs, none_counted, children_turned, children_same}
use Rattle.law.proofs.Views.{Turned, set_field, turned, turned_here, turned_there}
use Rattle.law.specs.Counts.{one_if}
use Rattle.law.specs.Sound.{entry, state_of, is_child, is_failed, children_running, tokens_with, BelowTop, HasWaiting, Planned, Shape, Busy}
use Rattle.rules.specs.Builds.{unbegun, is_waiting, is_running, with_state}
use Rattle.rules.specs.Builds.{Held}
use Rattle.rules.specs.Calls.{stepped}
use Rattle.rules.specs.Lists.{is_some}
use Rattle.rules.specs.Plans.{Plan, is_make}
use Rattle.rules.specs.Words.{is_ended}
use Rattle.rules.specs.declared.progress.Progress.{Progress}
use Rattle.rules.specs.declared.progress.State.{State}
use Rattle.rules.specs.declared.progress.State.TheVariants.{Waiting, Running, Good}
use Rattle.rules.proofs.Telling.{set_keeps}
use Rattle.std.proofs.lemmas.Bool.{cases_eq, eq-eqb, ne_eqb, true≢false, false≢true, both_ways}

-- the top make lives as long as any node runs
rooted_by : {h : Bool} {p : ℕ} {t : Plan} {ns : List Progress} {ts : List Held} → Shape h p t ns ts → (fuel n : ℕ) → n < fuel → n < t.nodes → is_running (state_of ns n) ≡ true → is_running (state_of ns 0) ≡ true
rooted_by s zero n short within r = absurd (omega arith)
rooted_by {h} {p} {t} {ns} s (suc fuel) n short within r =
    ⊎_elim
    (λ top. subst (λ k. is_running (state_of ns k) ≡ true) top r)
    (λ nested.
    let below : BelowTop t n = (omega (arith, nested), within) in
    let less = (s.planned.ordered.placed n below.0 within).0 in
    rooted_by s fuel (t.make n) (omega arith) (omega arith) (s.lives n below r))
    (cases_eq n 0)

pub rooted : {h : Bool} {p : ℕ} {t : Plan} {ns : List Progress} {ts : List Held} → Shape h p t ns ts → (n : ℕ) → n < t.nodes → is_running (state_of ns n) ≡ true → is_running (state_of ns 0) ≡ true
rooted s n within r = rooted_by s (suc n) n (omega arith) within r

-- a node may be pending
pub pend : {h : Bool} {t : Plan} {ns : List Progress} {ts : List Held} → Shape h t.nodes t ns ts → (n : ℕ) → Shape h n t ns ts
pend s n = record {
  planned = s.planned;
  whole = s.whole;
  lives = s.lives;
  paid = s.paid;
  good = s.good;
  failed = s.failed;
  going = λ k within job apart. s.going k within job (λ e. omega arith);
  full = s.full;
  fresh = s.fresh;
  untouched = s.untouched;
  unstopped = s.unstopped;
  marked = s.marked;
  able = λ k within make apart. s.able k within make (λ e. omega arith);
}

-- it is pending no more
pub unpend : {h : Bool} {p : ℕ} {t : Plan} {ns : List Progress} {ts : List Held} → Shape h p t ns ts →
    (is_make t p ≡ false → is_running (state_of ns p) ≡ true → (entry ns p).done < t.steps p) →
    (is_make t p ≡ true → is_running (state_of ns p) ≡ true → (0 < children_running t ns p) ⊎ (((entry ns p).stopped ≡ false) × HasWaiting t ns p)) →
    Shape h t.nodes t ns ts
unpend {h} {p} {t} {ns} s go may = record {
  planned = s.planned;
  whole = s.whole;
  lives = s.lives;
  paid = s.paid;
  good = s.good;
  failed = s.failed;
  going = λ k within job _ r. ⊎_elim
      (λ same. subst (λ j. (entry ns j).done < t.steps j) (sym same) (go (subst (λ j. is_make t j ≡ false) same job) (subst (λ j. is_running (state_of ns j) ≡ true) same r)))
      (λ apart. s.going k within job apart r)
      (cases_eq k p);
  full = s.full;
  fresh = s.fresh;
  untouched = s.untouched;
  unstopped = s.unstopped;
  marked = s.marked;
  able = λ k within make _ r. ⊎_elim
      (λ same. subst (λ j. (0 < children_running t ns j) ⊎ (((entry ns j).stopped ≡ false) × HasWaiting t ns j)) (sym same) (may (subst (λ j. is_make t j ≡ true) same make) (subst (λ j. is_running (state_of ns j) ≡ true) same r)))
      (λ apart. s.able k within make apart r)
      (cases_eq k p);
}

-- make m starts its child c, and the tokens are paid
pub shape_start : {t : Plan} {ns : List Progress} {ts : List Held} → Shape false t.nodes t ns ts → (c : ℕ) → BelowTop t c →
    is_running (state_of ns (t.make c)) ≡ true → is_waiting (state_of ns c) ≡ true → (ts' : List Held) →
    ((j : ℕ) → tokens_with j ts' ≡ (children_running t ns j + one_if (eqb (t.make c) j)) - 1) →
    Shape false t.nodes t (set ns c (with_state (entry ns c) Running)) ts'
shape_start {t} {ns} {ts} s c below live waits ts' pays = record {
  planned = s.planned;
  whole = v.long ∙ s.whole;
  lives = λ n b r. ⊎_elim
      (λ same. on (t.make n) (subst (λ j. is_running (state_of ns (t.make j)) ≡ true) (sym same) live))
      (λ apart. on (t.make n) (s.lives n b (ap is_running (sym (turned_there v n apart)) ∙ r)))
      (cases_eq n c);
  paid = λ j. pays j ∙ ap (λ x. x - 1) (sym (more j));
  good = λ n b g.
      let far : t.make n ≡ c → ⊥ = λ e. true≢false (ap is_running (sym (turned_here v) ∙ ap (state_of ms) (sym e) ∙ g)) in
      let old : state_of ns n ≡ Good = s.good n b (sym (turned_there v (t.make n) far) ∙ g) in
      turned_there v n (λ e. false≢true (ap is_waiting (sym old) ∙ ap (λ j. is_waiting (state_of ns j)) e ∙ waits)) ∙ old;
  failed = λ n b f.
      let far : n ≡ c → ⊥ = λ e. false≢true (ap is_failed (sym (turned_here v)) ∙ ap (λ j. is_failed (state_of ms j)) (sym e) ∙ f) in
      ap is_some (firsts (t.make n)) ∙ s.failed n b (ap is_failed (sym (turned_there v n far)) ∙ f);
  going = λ n within job _ r. ⊎_elim
      (λ same.
      let none : (entry ms n).done ≡ 0 = v.dones n ∙ ap (λ j. (entry ns j).done) same ∙ s.fresh c waits in
      let some = s.planned.sized n within job in
      omega arith)
      (λ apart.
      let old = s.going n within job (λ e. omega arith) (ap is_running (sym (turned_there v n apart)) ∙ r) in
      let same = v.dones n in
      omega arith)
      (cases_eq n c);
  full = λ n within job g.
      v.dones n ∙ s.full n within job (sym (turned_there v n (λ e. true≢false (ap is_running (sym (turned_here v) ∙ ap (state_of ms) (sym e) ∙ g)))) ∙ g);
  fresh = λ n w. v.dones n ∙ s.fresh n (ap is_waiting (sym (turned_there v n (begun n w))) ∙ w);
  untouched = λ n b w.
      let old : is_waiting (state_of ns (t.make n)) ≡ true = ap is_waiting (sym (turned_there v (t.make n) (begun (t.make n) w))) ∙ w in
      ap is_waiting (turned_there v n (λ e. run_wait _ live (ap (λ j. is_waiting (state_of ns (t.make j))) (sym e) ∙ old))) ∙ s.untouched n b old;
  unstopped = λ calm top n w. stops n ∙ s.unstopped calm (ap is_running (sym (turned_there v 0 apart_top)) ∙ top) n (ap is_waiting (sym (turned_there v n (begun n w))) ∙ w);
  marked = λ calm top n st. ap is_some (firsts n) ∙ s.marked calm (ap is_running (sym (turned_there v 0 apart_top)) ∙ top) n (sym (stops n) ∙ st);
  able = λ k within make _ r. ⊎_elim
      (λ same. inr (subst (λ j. ((entry ms j).stopped ≡ false) × HasWaiting t ms j) (sym same) (newly (subst (λ j. is_make t j ≡ true) same make))))
      (λ apart. ⊎_elim
      (λ some. inl (omega (arith, some, more k)))
      (λ may. ⊎_elim
      (λ its. inl (omega (arith, more k, one_true _ (eq-eqb (t.make c) k its))))
      (λ other. inr (stops k ∙ may.0, (may.1.0, may.1.1, may.1.2, ap is_waiting (turned_there v may.1.0 (λ e. other (ap t.make (sym e) ∙ may.1.2))) ∙ may.1.3)))
      (cases_eq (t.make c) k))
      (s.able k within make (λ e. omega arith) (ap is_running (sym (turned_there v k apart)) ∙ r)))
      (cases_eq k c);
}
  where
    ms : List Progress
    ms = set ns c (with_state (entry ns c) Running)

    within_c : c < length ns
    within_c = omega (arith, below.1, s.whole)

    v : Turned c Running ns ms
    v = turned ns c Running within_c

    apart_top : 0 ≡ c → ⊥
    apart_top e = omega (arith, below.0)

    stops : (k : ℕ) → (entry ms k).stopped ≡ (entry ns k).stopped
    stops k = set_keeps (λ x. x.stopped) ns c (with_state (entry ns c) Running) unbegun k refl

    firsts : (k : ℕ) → (entry ms k).first_failed ≡ (entry ns k).first_failed
    firsts k = set_keeps (λ x. x.first_failed) ns c (with_state (entry ns c) Running) unbegun k refl

    on : (k : ℕ) → is_running (state_of ns k) ≡ true → is_running (state_of ms k) ≡ true
    on k r = ⊎_elim (λ same. ap (λ j. is_running (state_of ms j)) same ∙ ap is_running (turned_here v)) (λ apart. ap is_running (turned_there v k apart) ∙ r) (cases_eq k c)

    begun : (k : ℕ) → is_waiting (state_of ms k) ≡ true → k ≡ c → ⊥
    begun k w e = false≢true (ap is_waiting (sym (turned_here v)) ∙ ap (λ j. is_waiting (state_of ms j)) (sym e) ∙ w)

    more : (j : ℕ) → children_running t ms j ≡ children_running t ns j + one_if (eqb (t.make c) j)
    more j =
        let was : one_if (is_child t j c && is_running (state_of ns c)) ≡ 0 = one_false _ (ap (λ x. is_child t j c && x) (waits_not_running _ waits) ∙ end (is_child t j c)) in
        let is : one_if (is_child t j c && is_running Running) ≡ one_if (eqb (t.make c) j) = ap one_if (yes_so (is_child t j c) ∙ child_eqb t j c below.0) in
        omega (arith, children_turned t v below.1 j, was, is)
      where
        end : (x : Bool) → (x && false) ≡ false
        end true = refl
        end false = refl

        yes_so : (x : Bool) → (x && true) ≡ x
        yes_so true = refl
        yes_so false = refl

    newly : is_make t c ≡ true → ((entry ms c).stopped ≡ false) × HasWaiting t ms c
    newly make =
        let child = s.planned.fed c below.1 make in
        let under : BelowTop t (c + 1) = (omega arith, child.0) in
        let unbegun-child = s.untouched (c + 1) under (ap (λ j. is_waiting (state_of ns j)) child.1 ∙ waits) in (
          stops c ∙ s.unstopped refl (rooted s (t.make c) (omega (arith, (s.planned.ordered.placed c below.0 below.1).0, below.1)) live) c waits,
          (c + 1, under, child.1, ap is_waiting (turned_there v (c + 1) (λ e. omega arith)) ∙ unbegun-child),
        )

-- Node n ended in the state `how`; of the other nodes at most q was marked.
pub record Ending (n : ℕ) (how : State) (q : ℕ) (ns ms : List Progress) : Type 0 where
  pub turn : Turned n how ns ms
  pub ended : is_ended how ≡ true
  pub stops : (k : ℕ) → (entry ms k).stopped ≡ true → ((entry ns k).stopped ≡ true) ⊎ (is_some (entry ms k).first_failed ≡ true)
  pub others : (k : ℕ) → (k ≡ q → ⊥) → (entry ms k).stopped ≡ (entry ns k).stopped
  pub stays : (k : ℕ) → (entry ns k).stopped ≡ true → (entry ms k).stopped ≡ true
  pub firsts : (k : ℕ) → is_some (entry ns k).first_failed ≡ true → is_some (entry ms k).first_failed ≡ true

-- what is owed when node n ends so: its steps, and all its children ended well, if it ends well
pub record Due (t : Plan) (ns : List Progress) (how : State) (n : ℕ) : Type 0 where
  pub within : n < t.nodes
  pub runs : is_running (state_of ns n) ≡ true
  pub idle : children_running t ns n ≡ 0
  pub job : how ≡ Good → is_make t n ≡ false → (entry ns n).done ≡ t.steps n
  pub children : how ≡ Good → (k : ℕ) → BelowTop t k → t.make k ≡ n → state_of ns k ≡ Good

pub shape_ended : {h : Bool} {t : Plan} {ns ms : List Progress} {ts : List Held} {n : ℕ} {how : State} {q : ℕ} → Shape h n t ns ts → Due t ns how n → Ending n how q ns ms →
    (0 < n → q ≡ t.make n) → (0 < n → is_failed how ≡ true → is_some (entry ms (t.make n)).first_failed ≡ true) →
    (ts' : List Held) → ((j : ℕ) → tokens_with j ts' ≡ children_running t ms j - 1) →
    Shape h q t ms ts'
shape_ended {h} {t} {ns} {ms} {ts} {n} {how} {q} s due e up marks ts' pays = record {
  planned = s.planned;
  whole = v.long ∙ s.whole;
  lives = λ k b r.
      let apart = still k r in
      let old : is_running (state_of ns k) ≡ true = ap is_running (sym (turned_there v k apart)) ∙ r in
      ap is_running (turned_there v (t.make k) (λ is. none_runs t ns n k due.idle b is old)) ∙ s.lives k b old;
  paid = pays;
  good = λ k b g. ⊎_elim
      (λ its.
      let so : how ≡ Good = sym (turned_here v) ∙ ap (state_of ms) (sym its) ∙ g in
      let less = (s.planned.ordered.placed k b.0 b.1).0 in
      turned_there v k (λ same. omega (arith, its, less, same)) ∙ due.children so k b its)
      (λ other.
      let old : state_of ns k ≡ Good = s.good k b (sym (turned_there v (t.make k) other) ∙ g) in
      turned_there v k (λ same. false≢true (ap is_running (sym old) ∙ ap (λ j. is_running (state_of ns j)) same ∙ due.runs)) ∙ old)
      (cases_eq (t.make k) n);
  failed = λ k b f. ⊎_elim
      (λ same. subst (λ j. is_some (entry ms (t.make j)).first_failed ≡ true) (sym same) (marks (subst (λ j. 0 < j) same b.0) (ap is_failed (sym (turned_here v)) ∙ ap (λ j. is_failed (state_of ms j)) (sym same) ∙ f)))
      (λ apart. e.firsts (t.make k) (s.failed k b (ap is_failed (sym (turned_there v k apart)) ∙ f)))
      (cases_eq k n);
  going = λ k within job _ r.
      let apart = still k r in
      let same = v.dones k in
      let old = s.going k within job apart (ap is_running (sym (turned_there v k apart)) ∙ r) in
      omega arith;
  full = λ k within job g. v.dones k ∙ ⊎_elim
      (λ same. subst (λ j. (entry ns j).done ≡ t.steps j) (sym same) (due.job (sym (turned_here v) ∙ ap (state_of ms) (sym same) ∙ g) (subst (λ j. is_make t j ≡ false) same job)))
      (λ apart. s.full k within job (sym (turned_there v k apart) ∙ g))
      (cases_eq k n);
  fresh = λ k w. v.dones k ∙ s.fresh k (unbegun_still k w);
  untouched = λ k b w.
      let old = s.untouched k b (unbegun_still (t.make k) w) in
      ap is_waiting (turned_there v k (λ same. run_wait _ due.runs (ap (λ j. is_waiting (state_of ns j)) (sym same) ∙ old))) ∙ old;
  unstopped = λ calm top k w.
      let pos = nested top in
      let old = unbegun_still k w in
      let below : BelowTop t n = (pos, due.within) in
      e.others k (λ is. run_wait _ (s.lives n below due.runs) (ap (λ j. is_waiting (state_of ns j)) (sym (up pos) ∙ sym is) ∙ old)) ∙ s.unstopped calm (top_before top) k old;
  marked = λ calm top k st. ⊎_elim (λ old. e.firsts k (s.marked calm (top_before top) k old)) (λ new. new) (e.stops k st);
  able = λ k within make other r.
      let apart = still k r in
      ⊎_elim
      (λ some. inl (omega (arith, some, same_count k other)))
      (λ may. inr (e.others k other ∙ may.0, (may.1.0, may.1.1, may.1.2, ap is_waiting (turned_there v may.1.0 (λ is. run_wait _ due.runs (ap (λ j. is_waiting (state_of ns j)) (sym is) ∙ may.1.3))) ∙ may.1.3)))
      (s.able k within make apart (ap is_running (sym (turned_there v k apart)) ∙ r));
}
  where
    v : Turned n how ns ms
    v = e.turn

    still : (k : ℕ) → is_running (state_of ms k) ≡ true → k ≡ n → ⊥
    still k r same = run_ended how (ap is_running (sym (turned_here v)) ∙ ap (λ j. is_running (state_of ms j)) (sym same) ∙ r) e.ended

    unbegun_still : (k : ℕ) → is_waiting (state_of ms k) ≡ true → is_waiting (state_of ns k) ≡ true
    unbegun_still k w =
        ap is_waiting (sym (turned_there v k (λ same. wait_ended how (ap is_waiting (sym (turned_here v)) ∙ ap (λ j. is_waiting (state_of ms j)) (sym same) ∙ w) e.ended))) ∙ w

    nested : is_running (state_of ms 0) ≡ true → 0 < n
    nested top = let apart = still 0 top in ⊎_elim (λ is. absurd (apart (sym is))) (λ far. omega (arith, far)) (cases_eq n 0)

    top_before : is_running (state_of ms 0) ≡ true → is_running (state_of ns 0) ≡ true
    top_before top = ap is_running (sym (turned_there v 0 (still 0 top))) ∙ top

    same_count : (k : ℕ) → (k ≡ q → ⊥) → children_running t ms k ≡ children_running t ns k
    same_count k other =
        let far : is_child t k n ≡ false = ⊎_elim
        (λ top. ap (λ x. not x && eqb (t.make n) k) (eq-eqb n 0 top))
        (λ apart. let pos : 0 < n = omega (arith, apart) in child_eqb t k n pos ∙ ne_eqb (t.make n) k (λ is. other (sym is ∙ sym (up pos))))
        (cases_eq n 0) in
        let was : one_if (is_child t k n && is_running (state_of ns n)) ≡ 0 = ap (λ x. one_if (x && is_running (state_of ns n))) far in
        let is : one_if (is_child t k n && is_running how) ≡ 0 = ap (λ x. one_if (x && is_running how)) far in
        omega (arith, children_turned t v due.within k, was, is)

-- how many children of each make run once n has ended
pub children_ended : {t : Plan} {ns ms : List Progress} {n : ℕ} {how : State} {q : ℕ} → Due t ns how n → Ending n how q ns ms → 0 < n → (j : ℕ) → children_running t ms j + one_if (eqb (t.make n) j) ≡ children_running t ns j
children_ended {t} {ns} {ms} {n} {how} due e pos j =
    let was : one_if (is_child t j n && is_running (state_of ns n)) ≡ one_if (eqb (t.make n) j) = ap one_if (ap (λ x. is_child t j n && x) due.runs ∙ yes_so (is_child t j n) ∙ child_eqb t j n pos) in
    let is : one_if (is_child t j n && is_running how) ≡ 0 = one_false _ (ap (λ x. is_child t j n && x) (ended_stops how e.ended) ∙ end (is_child t j n)) in
    omega (arith, children_turned t e.turn due.within j, was, is)
  where
    end : (x : Bool) → (x && false) ≡ false
    end true = refl
    end false = refl

    yes_so : (x : Bool) → (x && true) ≡ x
    yes_so true = refl
    yes_so false = refl

-- the top make ended: nothing else is counted anew
pub children_topped : {ns ms : List Progress} {how : State} {q : ℕ} (t : Plan) → 0 < t.nodes → Ending 0 how q ns ms → (j : ℕ) → children_running t ms j ≡ children_running t ns j
children_topped {ns} {ms} {how} t some e j = omega (arith, children_turned t e.turn some j)

-- one step of a running job
pub shape_step : {h : Bool} {t : Plan} {ns : List Progress} {ts : List Held} → Shape h t.nodes t ns ts → (n : ℕ) → n < t.nodes → is_running (state_of ns n) ≡ true → Shape h n t (set ns n (stepped (entry ns n))) ts
shape_step {h} {t} {ns} {ts} s n within runs = record {
  planned = s.planned;
  whole = length-set ns n _ ∙ s.whole;
  lives = λ k b r. ap is_running (states (t.make k)) ∙ s.lives k b (ap is_running (sym (states k)) ∙ r);
  paid = λ m. s.paid m ∙ ap (λ x. x - 1) (sym (children_same t ns ms states m));
  good = λ k b g. states k ∙ s.good k b (sym (states (t.make k)) ∙ g);
  failed = λ k b f. ap is_some (firsts (t.make k)) ∙ s.failed k b (ap is_failed (sym (states k)) ∙ f);
  going = λ k inside job apart r.
      let old = s.going k inside job (λ e. omega arith) (ap is_running (sym (states k)) ∙ r) in
      let same = dones k apart in
      omega arith;
  full = λ k inside job g.
      let old : state_of ns k ≡ Good = sym (states k) ∙ g in
      dones k (λ e. false≢true (ap is_running (sym old) ∙ ap (λ j. is_running (state_of ns j)) e ∙ runs)) ∙ s.full k inside job old;
  fresh = λ k w.
      let old : is_waiting (state_of ns k) ≡ true = ap is_waiting (sym (states k)) ∙ w in
      dones k (λ e. run_wait _ runs (ap (λ j. is_waiting (state_of ns j)) (sym e) ∙ old)) ∙ s.fresh k old;
  untouched = λ k b w. ap is_waiting (states k) ∙ s.untouched k b (ap is_waiting (sym (states (t.make k))) ∙ w);
  unstopped = λ calm top k w. stops k ∙ s.unstopped calm (ap is_running (sym (states 0)) ∙ top) k (ap is_waiting (sym (states k)) ∙ w);
  marked = λ calm top k st. ap is_some (firsts k) ∙ s.marked calm (ap is_running (sym (states 0)) ∙ top) k (sym (stops k) ∙ st);
  able = λ k inside make apart r.
      ⊎_elim
      (λ some. inl (omega (arith, some, children_same t ns ms states k)))
      (λ may. inr (stops k ∙ may.0, (may.1.0, may.1.1, may.1.2, ap is_waiting (states may.1.0) ∙ may.1.3)))
      (s.able k inside make (λ e. omega arith) (ap is_running (sym (states k)) ∙ r));
}
  where
    ms : List Progress
    ms = set ns n (stepped (entry ns n))

    states : (k : ℕ) → state_of ms k ≡ state_of ns k
    states k = set_keeps (λ x. x.state) ns n (stepped (entry ns n)) unbegun k refl

    stops : (k : ℕ) → (entry ms k).stopped ≡ (entry ns k).stopped
    stops k = set_keeps (λ x. x.stopped) ns n (stepped (entry ns n)) unbegun k refl

    firsts : (k : ℕ) → (entry ms k).first_failed ≡ (entry ns k).first_failed
    firsts k = set_keeps (λ x. x.first_failed) ns n (stepped (entry ns n)) unbegun k refl

    dones : (k : ℕ) → (k ≡ n → ⊥) → (entry ms k).done ≡ (entry ns k).done
    dones k apart = set_field (λ x. x.done) ns n (stepped (entry ns n)) k (omega (arith, within, s.whole)) ∙ ap (λ x. cond x ((entry ns n).done + 1) (entry ns k).done) (ne_eqb n k (λ e. apart (sym e)))

-- every make is stopped, while each live one has a running child
pub record Stopped (ns ms : List Progress) : Type 0 where
  pub long : length ms ≡ length ns
  pub states : (k : ℕ) → state_of ms k ≡ state_of ns k
  pub dones : (k : ℕ) → (entry ms k).done ≡ (entry ns k).done
  pub firsts : (k : ℕ) → (entry ms k).first_failed ≡ (entry ns k).first_failed

pub shape_stop : {h : Bool} {t : Plan} {ns ms : List Progress} {ts : List Held} → Shape h t.nodes t ns ts → Busy t ns → Stopped ns ms → Shape true t.nodes t ms ts
shape_stop {h} {t} {ns} {ms} {ts} s busy v = record {
  planned = s.planned;
  whole = v.long ∙ s.whole;
  lives = λ k b r. ap is_running (v.states (t.make k)) ∙ s.lives k b (ap is_running (sym (v.states k)) ∙ r);
  paid = λ m. s.paid m ∙ ap (λ x. x - 1) (sym (children_same t ns ms v.states m));
  good = λ k b g. v.states k ∙ s.good k b (sym (v.states (t.make k)) ∙ g);
  failed = λ k b f. ap is_some (v.firsts (t.make k)) ∙ s.failed k b (ap is_failed (sym (v.states k)) ∙ f);
  going = λ k inside job apart r.
      let old = s.going k inside job apart (ap is_running (sym (v.states k)) ∙ r) in
      let same = v.dones k in
      omega arith;
  full = λ k inside job g. v.dones k ∙ s.full k inside job (sym (v.states k) ∙ g);
  fresh = λ k w. v.dones k ∙ s.fresh k (ap is_waiting (sym (v.states k)) ∙ w);
  untouched = λ k b w. ap is_waiting (v.states k) ∙ s.untouched k b (ap is_waiting (sym (v.states (t.make k))) ∙ w);
  unstopped = λ calm. absurd (true≢false calm);
  marked = λ calm. absurd (true≢false calm);
  able = λ k inside make apart r. inl (omega (arith, busy k inside make (ap is_running (sym (v.states k)) ∙ r), children_same t ns ms v.states k));
}

-- once the top make has ended it does not matter why makes were stopped
pub shape_calm : {h : Bool} {p : ℕ} {t : Plan} {ns : List Progress} {ts : List Held} → Shape h p t ns ts → is_running (state_of ns 0) ≡ false → Shape false p t ns ts
shape_calm {h} {p} {t} {ns} s over = record {
  planned = s.planned;
  whole = s.whole;
  lives = s.lives;
  paid = s.paid;
  good = s.good;
  failed = s.failed;
  going = s.going;
  full = s.full;
  fresh = s.fresh;
  untouched = s.untouched;
  unstopped = λ calm top. absurd (both_ways _ over top);
  marked = λ calm top. absurd (both_ways _ over top);
  able = s.able;
}

-- no node has begun, and no token was taken
pub shape_fresh : {t : Plan} {ns : List Progress} → Planned t → length ns ≡ t.nodes → ((k : ℕ) → entry ns k ≡ unbegun) → Shape false t.nodes t ns []
shape_fresh {t} {ns} planned whole none = record {
  planned = planned;
  whole = whole;
  lives = λ k b r. absurd (idle k r);
  paid = λ m. sym (ap (λ x. x - 1) (none_counted t ns m (λ k b is r. idle k r)));
  good = λ k b g. absurd (false≢true (ap is_waiting (sym g) ∙ waits (t.make k)));
  failed = λ k b f. absurd (false≢true (ap (λ x. is_failed x.state) (sym (none k)) ∙ f));
  going = λ k inside job apart r. absurd (idle k r);
  full = λ k inside job g. absurd (false≢true (ap is_waiting (sym g) ∙ waits k));
  fresh = λ k w. ap (λ x. x.done) (none k);
  untouched = λ k b w. waits k;
  unstopped = λ calm top. absurd (idle 0 top);
  marked = λ calm top. absurd (idle 0 top);
  able = λ k inside make apart r. absurd (idle k r);
}
  where
    waits : (k : ℕ) → is_waiting (state_of ns k) ≡ true
    waits k = ap (λ x. is_waiting x.state) (none k)

    idle : (k : ℕ) → is_running (state_of ns k) ≡ true → ⊥
    idle k r = run_wait _ r (waits k)

-- then the top make is live
pub shape_open : {t : Plan} (ns : List Progress) → Planned t → length ns ≡ t.nodes → ((k : ℕ) → entry ns k ≡ unbegun) → Shape false t.nodes t (set ns 0 (with_state (entry ns 0) Running)) []
shape_open {t} ns planned whole none = record {
  planned = planned;
  whole = v.long ∙ whole;
  lives = λ k b r. absurd (idle k b.0 r);
  paid = λ m. sym (ap (λ x. x - 1) (none_counted t ms m (λ k b is r. idle k b.0 r)));
  good = λ k b g. absurd (not_good (t.make k) g);
  failed = λ k b f. absurd (false≢true (ap is_failed (sym (there k b.0)) ∙ f));
  going = λ k inside job apart r. ⊎_elim
      (λ top. absurd (both_ways _ job (ap (is_make t) top ∙ planned.ordered.top)))
      (λ far. absurd (idle k (omega (arith, far)) r))
      (cases_eq k 0);
  full = λ k inside job g. absurd (not_good k g);
  fresh = λ k w. v.dones k ∙ ap (λ x. x.done) (none k);
  untouched = λ k b w. ap is_waiting (there k b.0);
  unstopped = λ calm top k w. stops k;
  marked = λ calm top k st. absurd (both_ways _ (stops k) st);
  able = λ k inside make apart r. ⊎_elim
      (λ top. subst (λ j. (0 < children_running t ms j) ⊎ (((entry ms j).stopped ≡ false) × HasWaiting t ms j)) (sym top)
      (let child = planned.fed 0 planned.ordered.some planned.ordered.top in
      inr (stops 0, (1, (omega arith, child.0), child.1, ap is_waiting (there 1 (omega arith))))))
      (λ far. absurd (idle k (omega (arith, far)) r))
      (cases_eq k 0);
}
  where
    ms : List Progress
    ms = set ns 0 (with_state (entry ns 0) Running)

    v : Turned 0 Running ns ms
    v = turned ns 0 Running (omega (arith, whole, planned.ordered.some))

    there : (k : ℕ) → 0 < k → state_of ms k ≡ Waiting
    there k pos = turned_there v k (λ e. omega arith) ∙ ap (λ x. x.state) (none k)

    idle : (k : ℕ) → 0 < k → is_running (state_of ms k) ≡ true → ⊥
    idle k pos r = false≢true (ap is_running (sym (there k pos)) ∙ r)

    stops : (k : ℕ) → (entry ms k).stopped ≡ false
    stops k = set_keeps (λ x. x.stopped) ns 0 (with_state (entry ns 0) Running) unbegun k refl ∙ ap (λ x. x.stopped) (none k)

    not_good : (k : ℕ) → state_of ms k ≡ Good → ⊥
    not_good k g = ⊎_elim (λ top. true≢false (ap is_running (sym (turned_here v) ∙ ap (state_of ms) (sym top) ∙ g))) (λ far. true≢false (ap is_waiting (sym (there k (omega (arith, far))) ∙ g))) (cases_eq k 0)
