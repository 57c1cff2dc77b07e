-- The way up after an end is a row of moves, and keeps the shape of the build. Assumes nothing.
use Rattle.std.proofs.Common.{◌≡◌, ℕ, zero, suc, ◌-◌, ◌<◌, Bool, true, false, cond, not, ◌&&◌, ◌||◌, eqb, List, length, set, Some, None, Option, sym, refl, ap, ◌∙◌, subst, inl, inr, ⊎_elim, arith, length-set, get_or-set_other, get_or-set_same}
use Rattle.law.proofs.Bridges.{running_some, running_none, waiting_some, waiting_none}
use Rattle.law.proofs.Moves.{Moves, after_child, still, child, top}
use Rattle.law.proofs.Running.{ended_stops, four_states, none_runs}
use Rattle.law.proofs.Shapes.{Ending, Due, shape_ended, children_ended, children_topped, unpend, rooted}
use Rattle.law.proofs.Tokens.{paid_back}
use Rattle.law.proofs.Views.{Turned, turned, turned_marked, turned_here, turned_there}
use Rattle.law.specs.Sound.{entry, state_of, is_failed, children_running, Shape}
use Rattle.rules.specs.Builds.{Build, unbegun, at, is_running, running, has_running, has_waiting, with_state}
use Rattle.rules.specs.Builds.{Held}
use Rattle.rules.specs.Ending.{goes_back, put_found, mark, marked, ends_so, finish, end_by, make_end, is_over}
use Rattle.rules.specs.Lists.{is_some, or_else}
use Rattle.rules.specs.Plans.{is_make}
use Rattle.rules.specs.Settling.{Store, Run}
use Rattle.rules.specs.Words.{is_ended}
use Rattle.rules.specs.declared.progress.Progress.{Progress}
use Rattle.rules.specs.declared.progress.State.{State}
use Rattle.rules.specs.declared.progress.State.TheVariants.{Waiting, Running, Good, Failed}
use Rattle.rules.proofs.Backs.{make_ended}
use Rattle.rules.proofs.Held.{if_holds}
use Rattle.rules.proofs.Telling.{set_keeps}
use Rattle.schedule.specs.declared.cause.Cause.{Cause}
use Rattle.schedule.specs.declared.cause.Cause.TheVariants as causes
use Rattle.std.proofs.lemmas.Bool.{cases_eq, cases_Bool, and_parts, and_cases, or_cases, or_left, or_parts, eqb-true, eqb-false, true≢false, false≢true, both_ways, not-true, not-false}

-- the shape of a build
abbrev pub Shaped : Bool → ℕ → Build → Type 0
Shaped h p b = Shape h p b.plan b.nodes b.tokens

-- a node ends, and no make is marked
ending_plain : (ns : List Progress) (n : ℕ) (how : State) (q : ℕ) → n < length ns → is_ended how ≡ true → Ending n how q ns (set ns n (with_state (entry ns n) how))
ending_plain ns n how q within ended = record {
  turn = turned ns n how within;
  ended = ended;
  stops = λ k st. inl (sym (set_keeps (λ x. x.stopped) ns n (with_state (entry ns n) how) unbegun k refl) ∙ st);
  others = λ k apart. set_keeps (λ x. x.stopped) ns n (with_state (entry ns n) how) unbegun k refl;
  stays = λ k st. set_keeps (λ x. x.stopped) ns n (with_state (entry ns n) how) unbegun k refl ∙ st;
  firsts = λ k f. ap is_some (set_keeps (λ x. x.first_failed) ns n (with_state (entry ns n) how) unbegun k refl) ∙ f;
}

or_some : (o : Option ℕ) (c : ℕ) → is_some (or_else o (λ _. Some c)) ≡ true
or_some None c = refl
or_some (Some x) c = refl

-- a node fails, and its make is marked
module _ (ns : List Progress) (n m : ℕ) (keep : Bool) (c : Cause) (within : n < length ns) (inside : m < length ns) where
  pub mark_first : is_some (entry (set (set ns n (with_state (entry ns n) (Failed c))) m (marked keep n (entry (set ns n (with_state (entry ns n) (Failed c))) m))) m).first_failed ≡ true
  mark_first =
      let ms = set ns n (with_state (entry ns n) (Failed c)) in
      ap (λ x. is_some x.first_failed) (get_or-set_same ms m (marked keep n (entry ms m)) unbegun (omega (arith, inside, length-set ns n (with_state (entry ns n) (Failed c))))) ∙ or_some (entry ms m).first_failed n

  pub ending_marked : Ending n (Failed c) m ns (set (set ns n (with_state (entry ns n) (Failed c))) m (marked keep n (entry (set ns n (with_state (entry ns n) (Failed c))) m)))
  ending_marked =
      let ms = set ns n (with_state (entry ns n) (Failed c)) in
      let x = marked keep n (entry ms m) in
      let plain = ending_plain ns n (Failed c) m within refl in
      record {
        turn = turned_marked plain.turn keep m;
        ended = refl;
        stops = λ k st. ⊎_elim
            (λ same. inr (subst (λ j. is_some (entry (set ms m x) j).first_failed ≡ true) (sym same) mark_first))
            (λ apart. inl (sym (plain.others k apart) ∙ ap (λ y. y.stopped) (sym (get_or-set_other ms m k x unbegun apart)) ∙ st))
            (cases_eq k m);
        others = λ k apart. ap (λ y. y.stopped) (get_or-set_other ms m k x unbegun apart) ∙ plain.others k apart;
        stays = λ k st. ⊎_elim
            (λ same. ap (λ j. (entry (set ms m x) j).stopped) same ∙ ap (λ y. y.stopped) (get_or-set_same ms m x unbegun (omega (arith, inside, length-set ns n (with_state (entry ns n) (Failed c))))) ∙ or_left (entry ms m).stopped (not keep) (plain.stays m (ap (λ j. (entry ns j).stopped) (sym same) ∙ st)))
            (λ apart. ap (λ y. y.stopped) (get_or-set_other ms m k x unbegun apart) ∙ plain.stays k st)
            (cases_eq k m);
        firsts = λ k f. ⊎_elim
            (λ same. subst (λ j. is_some (entry (set ms m x) j).first_failed ≡ true) (sym same) mark_first)
            (λ apart. ap (λ y. is_some y.first_failed) (get_or-set_other ms m k x unbegun apart) ∙ plain.firsts k f)
            (cases_eq k m);
      }

-- what is so once a child has ended and its make has acted
pub record Risen {P : Type 0} (h : Bool) (how : State) (n : ℕ) (r back : Run P) : Type 0 where
  pub plan : back.build.plan ≡ r.build.plan
  pub shape : Shaped h (back.build.plan.make n) back.build
  pub turn : Turned n how r.build.nodes back.build.nodes
  pub stays : (k : ℕ) → (entry r.build.nodes k).stopped ≡ true → (entry back.build.nodes k).stopped ≡ true
  pub first : is_failed how ≡ true → is_some (entry back.build.nodes (back.build.plan.make n)).first_failed ≡ true

module _ {P : Type 0} (store : Store P) where
  module _ (h : Bool) (n : ℕ) (r : Run P) (pos : 0 < n) (s : Shaped h n r.build) where
    make_inside : n < r.build.plan.nodes → r.build.plan.make n < length r.build.nodes
    make_inside within = omega (arith, (s.planned.ordered.placed n pos within).0, within, s.whole)

    good_found : Due r.build.plan r.build.nodes Good n → (o : Option (ℕ × List Held)) → goes_back (r.build.plan.make n) r.build.tokens ≡ o → Risen h Good n r (mark Good (r.build.plan.make n) n (put_found store (r.build.plan.make n) o (ends_so Good n r)))
    good_found due None e =
        let ending = ending_plain r.build.nodes n Good (r.build.plan.make n) (omega (arith, due.within, s.whole)) refl in
        record {
          plan = refl;
          shape = shape_ended s due ending (λ _. refl) (λ _ f. absurd (false≢true f)) r.build.tokens (paid_back _ r.build.tokens None e (children_running r.build.plan r.build.nodes) _ s.paid (children_ended due ending pos) r.build.tokens refl);
          turn = ending.turn;
          stays = ending.stays;
          first = λ f. absurd (false≢true f);
        }
    good_found due (Some x) e =
        let ending = ending_plain r.build.nodes n Good (r.build.plan.make n) (omega (arith, due.within, s.whole)) refl in
        record {
          plan = refl;
          shape = shape_ended s due ending (λ _. refl) (λ _ f. absurd (false≢true f)) x.1 (paid_back _ r.build.tokens (Some x) e (children_running r.build.plan r.build.nodes) _ s.paid (children_ended due ending pos) x.1 refl);
          turn = ending.turn;
          stays = ending.stays;
          first = λ f. absurd (false≢true f);
        }

    failed_found : (c : Cause) → Due r.build.plan r.build.nodes (Failed c) n → (o : Option (ℕ × List Held)) → goes_back (r.build.plan.make n) r.build.tokens ≡ o → Risen h (Failed c) n r (mark (Failed c) (r.build.plan.make n) n (put_found store (r.build.plan.make n) o (ends_so (Failed c) n r)))
    failed_found c due None e =
        let within : n < length r.build.nodes = omega (arith, due.within, s.whole) in
        let inside = make_inside due.within in
        let ending = ending_marked r.build.nodes n (r.build.plan.make n) r.build.keep c within inside in
        let first = mark_first r.build.nodes n (r.build.plan.make n) r.build.keep c within inside in
        record {
          plan = refl;
          shape = shape_ended s due ending (λ _. refl) (λ _ _. first) r.build.tokens (paid_back _ r.build.tokens None e (children_running r.build.plan r.build.nodes) _ s.paid (children_ended due ending pos) r.build.tokens refl);
          turn = ending.turn;
          stays = ending.stays;
          first = λ _. first;
        }
    failed_found c due (Some x) e =
        let within : n < length r.build.nodes = omega (arith, due.within, s.whole) in
        let inside = make_inside due.within in
        let ending = ending_marked r.build.nodes n (r.build.plan.make n) r.build.keep c within inside in
        let first = mark_first r.build.nodes n (r.build.plan.make n) r.build.keep c within inside in
        record {
          plan = refl;
          shape = shape_ended s due ending (λ _. refl) (λ _ _. first) x.1 (paid_back _ r.build.tokens (Some x) e (children_running r.build.plan r.build.nodes) _ s.paid (children_ended due ending pos) x.1 refl);
          turn = ending.turn;
          stays = ending.stays;
          first = λ _. first;
        }

    pub risen : (how : State) → is_ended how ≡ true → Due r.build.plan r.build.nodes how n → Risen h how n r (after_child store how n r)
    risen Waiting ended due = absurd (false≢true ended)
    risen Running ended due = absurd (false≢true ended)
    risen Good ended due = good_found due (goes_back (r.build.plan.make n) r.build.tokens) refl
    risen (Failed c) ended due = failed_found c due (goes_back (r.build.plan.make n) r.build.tokens) refl

  -- what is so once a node has ended and all that follows was done
  pub record Climbed (h : Bool) (how : State) (n : ℕ) (r r' : Run P) : Type 0 where
    pub shape : Shaped h r'.build.plan.nodes r'.build
    pub moves : Moves store r r'
    pub onward : 0 < n → Moves store (after_child store how n r) r'
    pub plan : r'.build.plan ≡ r.build.plan
    pub jobs : (j : ℕ) → is_make r.build.plan j ≡ false → (j ≡ n → ⊥) → state_of r'.build.nodes j ≡ state_of r.build.nodes j
    pub stays : (k : ℕ) → (entry r.build.nodes k).stopped ≡ true → (entry r'.build.nodes k).stopped ≡ true
    pub gone : is_make r.build.plan n ≡ false → is_running (state_of r'.build.nodes n) ≡ false

  -- the top make ends
  topped : (h : Bool) (how : State) (r : Run P) → how ≡ make_end (at r.build 0) → is_ended how ≡ true → Shaped h 0 r.build → Due r.build.plan r.build.nodes how 0 → Climbed h how 0 r (finish (ends_so how 0 r))
  topped h Waiting r so ended s due = absurd (false≢true ended)
  topped h Running r so ended s due = absurd (false≢true ended)
  topped h Good r so ended s due =
      let ending = ending_plain r.build.nodes 0 Good r.build.plan.nodes (omega (arith, due.within, s.whole)) refl in
      record {
        shape = shape_ended s due ending (λ pos. absurd (omega arith)) (λ pos. absurd (omega arith)) r.build.tokens (λ j. s.paid j ∙ ap (λ x. x - 1) (sym (children_topped r.build.plan due.within ending j)));
        moves = top Good so refl due still;
        onward = λ pos. absurd (omega arith);
        plan = refl;
        jobs = λ j job apart. turned_there ending.turn j apart;
        stays = ending.stays;
        gone = λ job. ap is_running (turned_here ending.turn);
      }
  topped h (Failed c) r so ended s due =
      let ending = ending_plain r.build.nodes 0 (Failed c) r.build.plan.nodes (omega (arith, due.within, s.whole)) refl in
      record {
        shape = shape_ended s due ending (λ pos. absurd (omega arith)) (λ pos. absurd (omega arith)) r.build.tokens (λ j. s.paid j ∙ ap (λ x. x - 1) (sym (children_topped r.build.plan due.within ending j)));
        moves = top (Failed c) so refl due still;
        onward = λ pos. absurd (omega arith);
        plan = refl;
        jobs = λ j job apart. turned_there ending.turn j apart;
        stays = ending.stays;
        gone = λ job. ap is_running (turned_here ending.turn);
      }

  good_end : (x : Progress) → make_end x ≡ Good → is_some x.first_failed ≡ false
  good_end x e = by (is_some x.first_failed) e
    where
      by : (t : Bool) → cond t (Failed causes.FailedChild) Good ≡ Good → t ≡ false
      by true h = absurd (true≢false (ap is_failed h))
      by false h = refl

  failed_end : (x : Progress) → is_some x.first_failed ≡ true → is_failed (make_end x) ≡ true
  failed_end x e = ap (λ t. is_failed (cond t (Failed causes.FailedChild) Good)) e

  -- a make that is over is due to end
  over_due : (h : Bool) (m : ℕ) (b : Build) → Shaped h m b → m < b.plan.nodes → is_make b.plan m ≡ true → is_over b m ≡ true → (h ≡ true → is_some (at b m).first_failed ≡ true) → Due b.plan b.nodes (make_end (at b m)) m
  over_due h m b s within make over halted =
      let parts = and_parts (running b m && not (has_running b m)) ((at b m).stopped || not (has_waiting b m)) over in
      let front = and_parts (running b m) (not (has_running b m)) parts.0 in
      let idle = running_none b m (not-true _ front.1) in
      record {
        within = within;
        runs = front.0;
        idle = idle;
        job = λ _ job. absurd (both_ways _ job make);
        children = λ well k below is.
            let unmarked = good_end (at b m) well in
            ⊎_elim
            (λ waits. absurd (⊎_elim
            (λ stopped. ⊎_elim (λ halting. both_ways _ unmarked (halted halting)) (λ calm. both_ways _ unmarked (s.marked calm (rooted s m within front.0) m stopped)) (cases_Bool h))
            (λ none. waiting_none b m (not-true _ none) (k, below, is, waits))
            (or_cases (at b m).stopped (not (has_waiting b m)) parts.1)))
            (λ rest. ⊎_elim (λ runs. absurd (none_runs b.plan b.nodes m k idle below is runs))
            (λ ended. ⊎_elim (λ good. good) (λ bad. absurd (both_ways _ unmarked (ap (λ j. is_some (entry b.nodes j).first_failed) (sym is) ∙ s.failed k below bad))) ended) rest)
            (four_states (state_of b.nodes k));
      }

  -- a make that is not over may go on
  not_over : (h : Bool) (m : ℕ) (b : Build) → Shaped h m b → is_make b.plan m ≡ true → is_over b m ≡ false → Shaped h b.plan.nodes b
  not_over h m b s make over =
      unpend s (λ job. absurd (both_ways _ job make))
      (λ _ live.
      ⊎_elim
      (λ front. ⊎_elim (λ dead. absurd (both_ways _ dead live)) (λ some. inl (running_some b m (not-false _ some))) (and_cases (running b m) (not (has_running b m)) front))
      (λ may. let parts = or_parts (at b m).stopped (not (has_waiting b m)) may in inr (parts.0, waiting_some b m (not-false _ parts.1)))
      (and_cases (running b m && not (has_running b m)) ((at b m).stopped || not (has_waiting b m)) over))

  pub climbed : (h : Bool) (fuel : ℕ) (how : State) (n : ℕ) (r : Run P) → n < fuel → is_ended how ≡ true → (h ≡ true → is_failed how ≡ true) → (n ≡ 0 → how ≡ make_end (at r.build n)) → Shaped h n r.build → Due r.build.plan r.build.nodes how n → Climbed h how n r (end_by store fuel how n r)
  climbed h zero how n r short ended halted so s due = absurd (omega arith)
  climbed h (suc fuel) how n r short ended halted so s due =
      if_holds (Climbed h how n r) (eqb n 0) _ _
      (λ is. let same = eqb-true n 0 is in subst (λ k. Climbed h how k r (finish (ends_so how k r))) (sym same) (topped h how r (so same ∙ ap (λ k. make_end (at r.build k)) same) ended (subst (λ k. Shaped h k r.build) same s) (subst (Due r.build.plan r.build.nodes how) same due)))
      (λ nested.
      let pos : 0 < n = omega (arith, eqb-false n 0 nested) in
      let m = r.build.plan.make n in
      let back = after_child store how n r in
      let up = risen h n r pos s how ended due in
      let same : back.build.plan.make n ≡ m = ap (λ t. t.make n) up.plan in
      let place = s.planned.ordered.placed n pos due.within in
      let less : m < n = place.0 in
      let make : is_make back.build.plan m ≡ true = ap (λ t. is_make t m) up.plan ∙ place.1 in
      let inside : m < back.build.plan.nodes = subst (λ t. m < t.nodes) (sym up.plan) (omega (arith, due.within)) in
      let shaped : Shaped h m back.build = subst (λ k. Shaped h k back.build) same up.shape in
      let marks : is_failed how ≡ true → is_some (at back.build m).first_failed ≡ true = λ f. subst (λ k. is_some (entry back.build.nodes k).first_failed ≡ true) same (up.first f) in
      if_holds (Climbed h how n r) (is_over back.build m) _ _
      (λ over.
      let next = climbed h fuel (make_end (at back.build m)) m back (omega arith) (make_ended (at back.build m)) (λ halting. failed_end (at back.build m) (marks (halted halting))) (λ _. refl) shaped (over_due h m back.build shaped inside make over (λ halting. marks (halted halting))) in
      let other : (j : ℕ) → is_make r.build.plan j ≡ false → state_of (end_by store fuel (make_end (at back.build m)) m back).build.nodes j ≡ state_of back.build.nodes j = λ j job. next.jobs j (ap (λ t. is_make t j) up.plan ∙ job) (λ e. both_ways _ job (ap (is_make r.build.plan) e ∙ place.1)) in
      record {
        shape = next.shape;
        moves = child how n pos ended due next.moves;
        onward = λ _. next.moves;
        plan = next.plan ∙ up.plan;
        jobs = λ j job apart. other j job ∙ turned_there up.turn j apart;
        stays = λ k st. next.stays k (up.stays k st);
        gone = λ job. ap is_running (other n job ∙ turned_here up.turn) ∙ ended_stops how ended;
      })
      (λ going. record {
        shape = not_over h m back.build shaped make going;
        moves = child how n pos ended due still;
        onward = λ _. still;
        plan = up.plan;
        jobs = λ j job apart. turned_there up.turn j apart;
        stays = up.stays;
        gone = λ job. ap is_running (turned_here up.turn) ∙ ended_stops how ended;
      }))
