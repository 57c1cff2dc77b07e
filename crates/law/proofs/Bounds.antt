-- What may still be done and written falls with every move. Assumes nothing.
use Rattle.std.proofs.Common.{◌≡◌, ℕ, ◌+◌, ◌-◌, ◌*◌, ◌<◌, ◌≤◌, true, false, cond, List, [], ◌∷◌, ◌++◌, reverse, length, set, Some, None, Option, sym, refl, ap, ◌∙◌, subst, arith, length-append, get_or-set_same}
use mathlib.Core.List.{reverse-cons}
use Rattle.law.proofs.Moves.{Keeping, after_child}
use Rattle.law.proofs.Settles.{startable_child}
use Rattle.law.proofs.Shapes.{Stopped}
use Rattle.law.proofs.Sums.{sum_change, sum_same}
use Rattle.law.proofs.Views.{Turned, turned, turned_marked, turned_here, turned_there, set_field}
use Rattle.law.specs.Sound.{entry, state_of, left_of, steps_left, bytes_of, unended}
use Rattle.pool.specs.Meaning.{sum_below}
use Rattle.rules.specs.Builds.{unbegun, at, is_running, is_waiting, with_state}
use Rattle.rules.specs.Builds.{Held}
use Rattle.rules.specs.Calls.{stepped}
use Rattle.rules.specs.Ending.{put_found, mark, ends_so, finish}
use Rattle.rules.specs.Plans.{Plan, needed}
use Rattle.rules.specs.Settling.{Store, Run, start_in_slot, start_with_token}
use Rattle.rules.specs.Settling.{Start}
use Rattle.rules.specs.Words.{Startable, is_ended}
use Rattle.rules.specs.declared.progress.Progress.{Progress}
use Rattle.rules.specs.declared.progress.State.{State}
use Rattle.rules.specs.declared.progress.State.TheVariants.{Waiting, Running, Good, Failed}
use Rattle.rules.proofs.Telling.{set_keeps}
use Rattle.schedule.proofs.Encodings.{encoded_append}
use Rattle.schedule.specs.Records.{bytes, size, encoded}
use Rattle.schedule.specs.declared.record.Record.{Record}
use Rattle.std.proofs.lemmas.Bool.{ne_eqb, false≢true, true≢false}

-- the bytes of records
abbrev pub sizes : List Record → ℕ
sizes [] = 0
sizes (x ∷ rs) = size x + sizes rs

pub sizes_written : (rs : List Record) → length (encoded (reverse rs)) ≡ sizes rs
sizes_written [] = refl
sizes_written (x ∷ rs) =
    let parts : encoded (reverse (x ∷ rs)) ≡ encoded (reverse rs) ++ encoded (x ∷ []) = ap encoded (reverse-cons x rs) ∙ encoded_append (reverse rs) (x ∷ []) in
    let rest = sizes_written rs in
    omega (arith, ap length parts, length-append (encoded (reverse rs)) (encoded (x ∷ [])), length-append (bytes x) [], rest)

-- a sum over the nodes, of which one turned
sum_turned : (f : ℕ → State → ℕ → ℕ) (n : ℕ) {c : ℕ} {s : State} {ns ms : List Progress} → Turned c s ns ms → c < n → sum_below (λ k. f k (state_of ms k) (entry ms k).done) n + f c (state_of ns c) (entry ns c).done ≡ sum_below (λ k. f k (state_of ns k) (entry ns k).done) n + f c s (entry ns c).done
sum_turned f n {c} {s} {ns} {ms} v within =
    let change = sum_change (λ k. f k (state_of ns k) (entry ns k).done) (λ k. f k (state_of ms k) (entry ms k).done) c n within (λ k b apart. ap (λ x. f k x (entry ms k).done) (turned_there v k apart) ∙ ap (f k (state_of ns k)) (v.dones k)) in
    let here : f c (state_of ms c) (entry ms c).done ≡ f c s (entry ns c).done = ap (λ x. f c x (entry ms c).done) (turned_here v) ∙ ap (f c s) (v.dones c) in
    omega (arith, change, here)

-- what may still be written, with e bytes for what only the build as a whole writes
abbrev pub bytes_with : ℕ → Plan → List Progress → ℕ
bytes_with e t ns = sum_below (λ n. bytes_of (state_of ns n)) t.nodes + 2 * steps_left t ns + cond (unended (state_of ns 0)) e 0

steps_turned : {c : ℕ} {s : State} {ns ms : List Progress} (t : Plan) → Turned c s ns ms → c < t.nodes → steps_left t ms + left_of (state_of ns c) (t.steps c) (entry ns c).done ≡ steps_left t ns + left_of s (t.steps c) (entry ns c).done
steps_turned t v within = sum_turned (λ k x d. left_of x (t.steps k) d) t.nodes v within

bytes_turned : {c : ℕ} {s : State} {ns ms : List Progress} (t : Plan) → Turned c s ns ms → c < t.nodes → sum_below (λ n. bytes_of (state_of ms n)) t.nodes + bytes_of (state_of ns c) ≡ sum_below (λ n. bytes_of (state_of ns n)) t.nodes + bytes_of s
bytes_turned t v within = sum_turned (λ k x d. bytes_of x) t.nodes v within

top_kept : {c : ℕ} {s : State} {ns ms : List Progress} → Turned c s ns ms → 0 < c → (e : ℕ) → cond (unended (state_of ms 0)) e 0 ≡ cond (unended (state_of ns 0)) e 0
top_kept v pos e = ap (λ x. cond (unended x) e 0) (turned_there v 0 (λ is. omega arith))

wait_left : (s : State) (a d : ℕ) → is_waiting s ≡ true → (left_of s a d ≡ a) × (bytes_of s ≡ 12)
wait_left Waiting a d w = (refl, refl)
wait_left Running a d w = absurd (false≢true w)
wait_left Good a d w = absurd (false≢true w)
wait_left (Failed c) a d w = absurd (false≢true w)

run_left : (s : State) (a d : ℕ) → is_running s ≡ true → (left_of s a d ≡ a - d) × (bytes_of s ≡ 8)
run_left Waiting a d w = absurd (false≢true w)
run_left Running a d w = (refl, refl)
run_left Good a d w = absurd (false≢true w)
run_left (Failed c) a d w = absurd (false≢true w)

end_left : (s : State) (a d : ℕ) → is_ended s ≡ true → (left_of s a d ≡ 0) × (bytes_of s ≡ 0)
end_left Waiting a d w = absurd (false≢true w)
end_left Running a d w = absurd (false≢true w)
end_left Good a d w = (refl, refl)
end_left (Failed c) a d w = (refl, refl)

pub run_unended : (s : State) → is_running s ≡ true → unended s ≡ true
run_unended Waiting r = refl
run_unended Running r = refl
run_unended Good r = absurd (false≢true r)
run_unended (Failed c) r = absurd (false≢true r)

-- a node that has begun and does not run has ended
pub over_ended : (s : State) → is_waiting s ≡ false → is_running s ≡ false → unended s ≡ false
over_ended Waiting w r = absurd (true≢false w)
over_ended Running w r = absurd (true≢false r)
over_ended Good w r = refl
over_ended (Failed c) w r = refl

pub end_begun : (s : State) → is_ended s ≡ true → is_waiting s ≡ false
end_begun Waiting e = absurd (false≢true e)
end_begun Running e = refl
end_begun Good e = refl
end_begun (Failed c) e = refl

-- what falls
pub record Falls (t : Plan) (ns ms : List Progress) (bytes : ℕ) (e e' : ℕ) : Type 0 where
  pub steps : steps_left t ms ≤ steps_left t ns
  pub room : bytes_with e' t ms + bytes ≤ bytes_with e t ns

pub start_falls : {c : ℕ} {ns ms : List Progress} (t : Plan) → Turned c Running ns ms → 0 < c → c < t.nodes → is_waiting (state_of ns c) ≡ true → (e : ℕ) → Falls t ns ms 4 e e
start_falls {c} {ns} {ms} t v pos within waits e =
    let was = wait_left (state_of ns c) (t.steps c) (entry ns c).done waits in
    let steps = steps_turned t v within in
    let room = bytes_turned t v within in
    let top = top_kept v pos e in
    record { steps = omega (arith, was.0, steps); room = omega (arith, was.0, was.1, steps, room, top) }

pub end_falls : {c : ℕ} {how : State} {ns ms : List Progress} (t : Plan) → Turned c how ns ms → 0 < c → c < t.nodes → is_ended how ≡ true → is_running (state_of ns c) ≡ true → (e : ℕ) → Falls t ns ms 8 e e
end_falls {c} {how} {ns} {ms} t v pos within ended runs e =
    let was = run_left (state_of ns c) (t.steps c) (entry ns c).done runs in
    let is = end_left how (t.steps c) (entry ns c).done ended in
    let steps = steps_turned t v within in
    let room = bytes_turned t v within in
    let top = top_kept v pos e in
    record { steps = omega (arith, was.0, is.0, steps); room = omega (arith, was.0, was.1, is.0, is.1, steps, room, top) }

pub top_falls : {how : State} {ns ms : List Progress} (t : Plan) → Turned 0 how ns ms → 0 < t.nodes → is_ended how ≡ true → is_running (state_of ns 0) ≡ true → (e : ℕ) → Falls t ns ms 8 e e
top_falls {how} {ns} {ms} t v within ended runs e =
    let was = run_left (state_of ns 0) (t.steps 0) (entry ns 0).done runs in
    let is = end_left how (t.steps 0) (entry ns 0).done ended in
    let steps = steps_turned t v within in
    let room = bytes_turned t v within in
    let before : cond (unended (state_of ns 0)) e 0 ≡ e = ap (λ x. cond x e 0) (run_unended _ runs) in
    let after : cond (unended (state_of ms 0)) e 0 ≡ 0 = ap (λ x. cond (unended x) e 0) (turned_here v) ∙ off how ended in
    record { steps = omega (arith, was.0, is.0, steps); room = omega (arith, was.0, was.1, is.0, is.1, steps, room, before, after) }
  where
    off : (s : State) → is_ended s ≡ true → cond (unended s) e 0 ≡ 0
    off Waiting x = absurd (false≢true x)
    off Running x = absurd (false≢true x)
    off Good x = refl
    off (Failed c) x = refl

-- an end with steps left uses up at least one of them
pub end_uses : {c : ℕ} {how : State} {ns ms : List Progress} (t : Plan) → Turned c how ns ms → c < t.nodes → is_ended how ≡ true → is_running (state_of ns c) ≡ true → (entry ns c).done < t.steps c → steps_left t ms + 1 ≤ steps_left t ns
end_uses {c} {how} {ns} {ms} t v within ended runs more =
    let was = run_left (state_of ns c) (t.steps c) (entry ns c).done runs in
    let is = end_left how (t.steps c) (entry ns c).done ended in
    omega (arith, was.0, is.0, steps_turned t v within, more)

-- one step
pub step_falls : (t : Plan) (ns : List Progress) (n : ℕ) → n < t.nodes → n < length ns → is_running (state_of ns n) ≡ true → (entry ns n).done < t.steps n → (e : ℕ) → (steps_left t (set ns n (stepped (entry ns n))) + 1 ≡ steps_left t ns) × (bytes_with e t (set ns n (stepped (entry ns n))) + 2 ≡ bytes_with e t ns)
step_falls t ns n within inside runs more e =
    let ms = set ns n (stepped (entry ns n)) in
    let states : (k : ℕ) → state_of ms k ≡ state_of ns k = λ k. set_keeps (λ x. x.state) ns n (stepped (entry ns n)) unbegun k refl in
    let now : (entry ms n).done ≡ (entry ns n).done + 1 = ap (λ x. x.done) (get_or-set_same ns n (stepped (entry ns n)) unbegun inside) in
    let others : (k : ℕ) → (k ≡ n → ⊥) → (entry ms k).done ≡ (entry ns k).done = λ k apart. set_field (λ x. x.done) ns n (stepped (entry ns n)) k inside ∙ ap (λ x. cond x ((entry ns n).done + 1) (entry ns k).done) (ne_eqb n k (λ is. apart (sym is))) in
    let f : ℕ → ℕ = λ k. left_of (state_of ns k) (t.steps k) (entry ns k).done in
    let g : ℕ → ℕ = λ k. left_of (state_of ms k) (t.steps k) (entry ms k).done in
    let change = sum_change f g n t.nodes within (λ k b apart. ap (λ x. left_of x (t.steps k) (entry ms k).done) (states k) ∙ ap (left_of (state_of ns k) (t.steps k)) (others k apart)) in
    let was : f n ≡ t.steps n - (entry ns n).done = (run_left (state_of ns n) (t.steps n) (entry ns n).done runs).0 in
    let is : g n ≡ t.steps n - (entry ms n).done = (run_left (state_of ms n) (t.steps n) (entry ms n).done (ap is_running (states n) ∙ runs)).0 in
    let fewer : steps_left t ms + 1 ≡ steps_left t ns = omega (arith, change, was, is, now, more) in
    let same = sum_same (λ k. bytes_of (state_of ns k)) (λ k. bytes_of (state_of ms k)) t.nodes (λ k b. ap bytes_of (states k)) in
    let top : cond (unended (state_of ms 0)) e 0 ≡ cond (unended (state_of ns 0)) e 0 = ap (λ x. cond (unended x) e 0) (states 0) in
    (fewer, omega (arith, fewer, same, top))

-- stopping changes neither
pub stop_same : (t : Plan) (ns ms : List Progress) → Stopped ns ms → (e : ℕ) → (steps_left t ms ≡ steps_left t ns) × (bytes_with e t ms ≡ bytes_with e t ns)
stop_same t ns ms v e =
    let steps : steps_left t ms ≡ steps_left t ns = sum_same _ _ t.nodes (λ k b. ap (λ x. left_of x (t.steps k) (entry ms k).done) (v.states k) ∙ ap (left_of (state_of ns k) (t.steps k)) (v.dones k)) in
    let room = sum_same (λ k. bytes_of (state_of ns k)) (λ k. bytes_of (state_of ms k)) t.nodes (λ k b. ap bytes_of (v.states k)) in
    let top : cond (unended (state_of ms 0)) e 0 ≡ cond (unended (state_of ns 0)) e 0 = ap (λ x. cond (unended x) e 0) (v.states 0) in
    (steps, omega (arith, steps, room, top))

module _ {P : Type 0} (store : Store P) where
  -- the part of a child's end that the nodes show
  pub record Child (how : State) (n : ℕ) (r back : Run P) : Type 0 where
    pub plan : back.build.plan ≡ r.build.plan
    pub turn : Turned n how r.build.nodes back.build.nodes
    pub records : sizes back.records ≤ sizes r.records + 6

  child_found : (how : State) (n m : ℕ) (o : Option (ℕ × List Held)) (r : Run P) → is_ended how ≡ true → n < length r.build.nodes → Child how n r (mark how m n (put_found store m o (ends_so how n r)))
  child_found Waiting n m o r ended within = absurd (false≢true ended)
  child_found Running n m o r ended within = absurd (false≢true ended)
  child_found Good n m None r ended within = record { plan = refl; turn = turned r.build.nodes n Good within; records = omega arith }
  child_found Good n m (Some f) r ended within = record { plan = refl; turn = turned r.build.nodes n Good within; records = omega arith }
  child_found (Failed c) n m None r ended within = record { plan = refl; turn = turned_marked (turned r.build.nodes n (Failed c) within) r.build.keep m; records = omega arith }
  child_found (Failed c) n m (Some f) r ended within = record { plan = refl; turn = turned_marked (turned r.build.nodes n (Failed c) within) r.build.keep m; records = omega arith }

  pub child_ended : (how : State) (n : ℕ) (r : Run P) → is_ended how ≡ true → n < length r.build.nodes → Child how n r (after_child store how n r)
  child_ended how n r ended within = child_found how n (r.build.plan.make n) _ r ended within

  pub record Top (how : State) (r over : Run P) : Type 0 where
    pub plan : over.build.plan ≡ r.build.plan
    pub turn : Turned 0 how r.build.nodes over.build.nodes
    pub records : sizes over.records ≤ sizes r.records + 5

  pub top_ended : (how : State) (r : Run P) → is_ended how ≡ true → 0 < length r.build.nodes → Top how r (finish (ends_so how 0 r))
  top_ended Waiting r ended within = absurd (false≢true ended)
  top_ended Running r ended within = absurd (false≢true ended)
  top_ended Good r ended within = record { plan = refl; turn = turned r.build.nodes 0 Good within; records = omega arith }
  top_ended (Failed c) r ended within = record { plan = refl; turn = turned r.build.nodes 0 (Failed c) within; records = omega arith }

  -- the tree t, at most `left` steps to come, and from the place `base` on room for what is and may be written
  pub record Within (t : Plan) (base e left : ℕ) (dones : ℕ → ℕ) (r : Run P) : Type 0 where
    pub plan : r.build.plan ≡ t
    pub whole : length r.build.nodes ≡ t.nodes
    pub begun : is_waiting (state_of r.build.nodes 0) ≡ false
    pub steps : steps_left t r.build.nodes ≤ left
    pub room : base + sizes r.records + bytes_with e t r.build.nodes ≤ needed t
    pub done : (k : ℕ) → (entry r.build.nodes k).done ≡ dones k

  pub within_fallen : (t : Plan) (base e e' left fewer : ℕ) (dones : ℕ → ℕ) (n : ℕ) (s : State) (r r' : Run P) → Within t base e left dones r → r'.build.plan ≡ r.build.plan → Turned n s r.build.nodes r'.build.nodes → (bytes : ℕ) → sizes r'.records ≤ sizes r.records + bytes → Falls t r.build.nodes r'.build.nodes bytes e e' → steps_left t r'.build.nodes ≤ fewer → is_waiting (state_of r'.build.nodes 0) ≡ false → Within t base e' fewer dones r'
  within_fallen t base e e' left fewer dones n s r r' w plan turn bytes few falls less begun = record {
    plan = plan ∙ w.plan;
    whole = turn.long ∙ w.whole;
    begun = begun;
    steps = less;
    room = omega (arith, w.room, falls.room, few);
    done = λ k. turn.dones k ∙ w.done k;
  }

  -- a child that may start lies in the table
  started : (t : Plan) (r : Run P) (s : Start) → r.build.plan ≡ t → length r.build.nodes ≡ t.nodes → Startable r.build s.make s.child → Turned s.child Running r.build.nodes (set r.build.nodes s.child (with_state (at r.build s.child) Running)) × (0 < s.child) × (s.child < t.nodes)
  started t r s plan whole st =
      let below = (startable_child r.build s.make s.child st).0 in
      let inside : s.child < t.nodes = subst (λ q. s.child < q.nodes) plan below.1 in
      (turned r.build.nodes s.child Running (omega (arith, inside, whole)), below.0, inside)

  pub keeping_within : (t : Plan) (base e left : ℕ) (dones : ℕ → ℕ) → Keeping store (Within t base e left dones)
  keeping_within t base e left dones = record {
    on_slot = λ s r i w.
        let st = started t r s w.plan w.whole i.child in
        let falls = start_falls t st.0 st.1 st.2 i.child.unbegun e in
        within_fallen t base e e left left dones s.child Running r (start_in_slot s r) w refl st.0 4 (omega arith) falls (omega (arith, falls.steps, w.steps)) (ap is_waiting (turned_there st.0 0 (λ is. omega (arith, st.1))) ∙ w.begun);
    on_token = λ s byte p r i _ w.
        let st = started t r s w.plan w.whole i.child in
        let falls = start_falls t st.0 st.1 st.2 i.child.unbegun e in
        within_fallen t base e e left left dones s.child Running r (start_with_token s byte p r) w refl st.0 4 (omega arith) falls (omega (arith, falls.steps, w.steps)) (ap is_waiting (turned_there st.0 0 (λ is. omega (arith, st.1))) ∙ w.begun);
    on_none = λ p r _ w. record { plan = w.plan; whole = w.whole; begun = w.begun; steps = w.steps; room = w.room; done = w.done };
    on_child = λ how n r pos ended due w.
        let inside : n < t.nodes = subst (λ q. n < q.nodes) w.plan due.within in
        let c = child_ended how n r ended (omega (arith, inside, w.whole)) in
        let falls = end_falls t c.turn pos inside ended due.runs e in
        within_fallen t base e e left left dones n how r (after_child store how n r) w c.plan c.turn 8 (omega (arith, c.records)) falls (omega (arith, falls.steps, w.steps)) (ap is_waiting (turned_there c.turn 0 (λ is. omega arith)) ∙ w.begun);
    on_top = λ how r so ended due w.
        let inside : 0 < t.nodes = subst (λ q. 0 < q.nodes) w.plan due.within in
        let c = top_ended how r ended (omega (arith, inside, w.whole)) in
        let falls = top_falls t c.turn inside ended due.runs e in
        within_fallen t base e e left left dones 0 how r (finish (ends_so how 0 r)) w c.plan c.turn 8 (omega (arith, c.records)) falls (omega (arith, falls.steps, w.steps)) (ap is_waiting (turned_here c.turn) ∙ end_begun how ended);
  }
