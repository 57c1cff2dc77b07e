-- The records tell how far each node is and which tokens each make holds. Assumes nothing.
use Rattle.std.proofs.Common.{◌≡◌, ℕ, ◌+◌, ◌<◌, Bool, true, false, cond, not, ◌&&◌, eqb, List, [], ◌∷◌, ◌++◌, length, get_or, set, Some, None, Option, sym, refl, ap, ◌∙◌, subst, arith, length-set, get_or-set_same}
use Rattle.law.proofs.Moves.{Keeping}
use Rattle.law.proofs.Running.{one_true, one_false}
use Rattle.law.proofs.Settles.{startable_child}
use Rattle.law.proofs.Shapes.{Due}
use Rattle.law.proofs.Tokens.{of_make, goes_some}
use Rattle.law.proofs.Views.{Turned, turned, turned_there}
use Rattle.law.specs.Counts.{one_if, takes, returns, begins, ends_well, ends_failed, how_many, runs, finish_of}
use Rattle.law.specs.Law.{OwnReturns}
use Rattle.law.specs.Sound.{state_of}
use Rattle.rules.specs.Builds.{unbegun, at, is_running, is_waiting, with_state}
use Rattle.rules.specs.Builds.{Held}
use Rattle.rules.specs.Ending.{goes_back, put_found, mark, marked, ends_so, finish, make_end}
use Rattle.rules.specs.Lists.{is_some}
use Rattle.rules.specs.Settling.{Store, Run}
use Rattle.rules.specs.Settling.{Start}
use Rattle.rules.specs.Words.{Startable, is_ended}
use Rattle.rules.specs.declared.progress.Progress.{Progress}
use Rattle.rules.specs.declared.progress.State.{State}
use Rattle.rules.specs.declared.progress.State.TheVariants.{Waiting, Running, Good, Failed}
use Rattle.rules.proofs.Telling.{set_keeps}
use Rattle.schedule.specs.declared.cause.Cause.{Cause}
use Rattle.schedule.specs.declared.cause.Cause.TheVariants as causes
use Rattle.schedule.specs.declared.record.Record.{Record}
use Rattle.schedule.specs.declared.record.Record.TheVariants.{Open, StartInSlot, StartWithToken, Step, Kill, Halt, EndedWell, EndedFailed, PutBack, Finished}
use Rattle.std.proofs.lemmas.Bool.{eqb-true, eq-eqb, false≢true, and_from}

abbrev pub is_good : State → Bool
is_good Waiting = false
is_good Running = false
is_good Good = true
is_good (Failed c) = false

-- a token k in the hand of make m
abbrev pub is_held : ℕ → ℕ → Held → Bool
is_held m k h = eqb h.by m && eqb h.byte k

-- the records tell the states of all nodes below the top make, and the tokens of all makes
pub record Told (ns : List Progress) (ts : List Held) (rs : List Record) : Type 0 where
  pub tokens : (m k : ℕ) → how_many (is_held m k) ts + how_many (returns m k) rs ≡ how_many (takes m k) rs
  pub own : OwnReturns rs
  pub starts : (n : ℕ) → 0 < n → how_many (begins n) rs ≡ one_if (not (is_waiting (state_of ns n)))
  pub on : (n : ℕ) → 0 < n → runs n rs ≡ is_running (state_of ns n)
  pub well : (n : ℕ) → 0 < n → how_many (ends_well n) rs ≡ one_if (is_good (state_of ns n))

-- a record that is no return asks nothing
own_more : (x : Record) (rs : List Record) → ((m k : ℕ) → x ≡ PutBack m k → how_many (returns m k) rs < how_many (takes m k) rs) → OwnReturns rs → OwnReturns (x ∷ rs)
own_more x rs here own [] m k earlier e = let first : x ≡ PutBack m k = cc in let rest : rs ≡ earlier = cc in subst (λ l. how_many (returns m k) l < how_many (takes m k) l) rest (here m k first)
own_more x rs here own (y ∷ later) m k earlier e = let rest : rs ≡ later ++ PutBack m k ∷ earlier = cc in own later m k earlier rest

-- a record that tells of no start, end, take or return
pub record Quiet (x : Record) : Type 0 where
  pub no_take : (m k : ℕ) → takes m k x ≡ false
  pub no_return : (m k : ℕ) → returns m k x ≡ false
  pub no_put : (m k : ℕ) → x ≡ PutBack m k → ⊥
  pub no_start : (n : ℕ) → begins n x ≡ false
  pub no_well : (n : ℕ) → ends_well n x ≡ false
  pub no_failed : (n : ℕ) → ends_failed n x ≡ false

no_more : {A : Type 0} (p : A → Bool) (x : A) (xs : List A) → p x ≡ false → how_many p (x ∷ xs) ≡ how_many p xs
no_more p x xs e = omega (arith, one_false (p x) e)

pub told_quiet : {ns : List Progress} {ts : List Held} {rs : List Record} → Told ns ts rs → (x : Record) → Quiet x → Told ns ts (x ∷ rs)
told_quiet {ns} {ts} {rs} t x q = record {
  tokens = λ m k. omega (arith, t.tokens m k, no_more (returns m k) x rs (q.no_return m k), no_more (takes m k) x rs (q.no_take m k));
  own = own_more x rs (λ m k e. absurd (q.no_put m k e)) t.own;
  starts = λ n pos. no_more (begins n) x rs (q.no_start n) ∙ t.starts n pos;
  on = λ n pos. ap (λ u. cond u true (cond (ends_well n x) false (cond (ends_failed n x) false (runs n rs)))) (q.no_start n) ∙ ap (λ u. cond u false (cond (ends_failed n x) false (runs n rs))) (q.no_well n) ∙ ap (λ u. cond u false (runs n rs)) (q.no_failed n) ∙ t.on n pos;
  well = λ n pos. no_more (ends_well n) x rs (q.no_well n) ∙ t.well n pos;
}

pub quiet_open : (a b c : ℕ) → Quiet (Open a b c)
quiet_open a b c = record { no_take = λ m k. refl; no_return = λ m k. refl; no_put = λ m k e. let z : ◌≡◌ {A = ℕ} 0 1 = cc in omega arith; no_start = λ n. refl; no_well = λ n. refl; no_failed = λ n. refl }

pub quiet_step : (a : ℕ) → Quiet (Step a)
quiet_step a = record { no_take = λ m k. refl; no_return = λ m k. refl; no_put = λ m k e. let z : ◌≡◌ {A = ℕ} 0 1 = cc in omega arith; no_start = λ n. refl; no_well = λ n. refl; no_failed = λ n. refl }

pub quiet_kill : (a : ℕ) → Quiet (Kill a)
quiet_kill a = record { no_take = λ m k. refl; no_return = λ m k. refl; no_put = λ m k e. let z : ◌≡◌ {A = ℕ} 0 1 = cc in omega arith; no_start = λ n. refl; no_well = λ n. refl; no_failed = λ n. refl }

pub quiet_halt : Quiet Halt
quiet_halt = record { no_take = λ m k. refl; no_return = λ m k. refl; no_put = λ m k e. let z : ◌≡◌ {A = ℕ} 0 1 = cc in omega arith; no_start = λ n. refl; no_well = λ n. refl; no_failed = λ n. refl }

pub quiet_finished : (a : ℕ) → Quiet (Finished a)
quiet_finished a = record { no_take = λ m k. refl; no_return = λ m k. refl; no_put = λ m k e. let z : ◌≡◌ {A = ℕ} 0 1 = cc in omega arith; no_start = λ n. refl; no_well = λ n. refl; no_failed = λ n. refl }

-- the same states and tokens are told the same
pub told_same : {ns ms : List Progress} {ts : List Held} {rs : List Record} → Told ns ts rs → ((k : ℕ) → 0 < k → state_of ms k ≡ state_of ns k) → Told ms ts rs
told_same {ns} {ms} {ts} {rs} t same = record {
  tokens = t.tokens;
  own = t.own;
  starts = λ n pos. t.starts n pos ∙ ap (λ s. one_if (not (is_waiting s))) (sym (same n pos));
  on = λ n pos. t.on n pos ∙ ap is_running (sym (same n pos));
  well = λ n pos. t.well n pos ∙ ap (λ s. one_if (is_good s)) (sym (same n pos));
}

-- a start of node c
module _ (x : Bool) (s : State) (waits : x ≡ true → is_waiting s ≡ true) where
  start_counted : (h : ℕ) → h ≡ one_if (not (is_waiting s)) → one_if x + h ≡ one_if (not (is_waiting (cond x Running s)))
  start_counted h e = by x refl
    where
      by : (y : Bool) → x ≡ y → one_if y + h ≡ one_if (not (is_waiting (cond y Running s)))
      by true is = omega (arith, e, one_false (not (is_waiting s)) (ap not (waits is)))
      by false is = omega (arith, e)

  start_runs : (r : Bool) → r ≡ is_running s → cond x true r ≡ is_running (cond x Running s)
  start_runs r e = by x
    where
      by : (y : Bool) → cond y true r ≡ is_running (cond y Running s)
      by true = refl
      by false = e

  start_well : (h : ℕ) → h ≡ one_if (is_good s) → h ≡ one_if (is_good (cond x Running s))
  start_well h e = by x refl
    where
      not_good : (u : State) → is_waiting u ≡ true → one_if (is_good u) ≡ 0
      not_good Waiting w = refl
      not_good Running w = absurd (false≢true w)
      not_good Good w = absurd (false≢true w)
      not_good (Failed c) w = refl

      by : (y : Bool) → x ≡ y → h ≡ one_if (is_good (cond y Running s))
      by true is = e ∙ not_good s (waits is)
      by false is = e

pub told_slot : {ns ms : List Progress} {ts : List Held} {rs : List Record} → Told ns ts rs → (m c : ℕ) → Turned c Running ns ms → is_waiting (state_of ns c) ≡ true → Told ms ts (StartInSlot m c ∷ rs)
told_slot {ns} {ms} {ts} {rs} t m c v waits = record {
  tokens = λ j k. omega (arith, t.tokens j k);
  own = own_more (StartInSlot m c) rs (λ j k e. let z : ◌≡◌ {A = ℕ} 0 1 = cc in absurd (omega arith)) t.own;
  starts = λ n pos. start_counted (eqb c n) (state_of ns n) (begun n) (how_many (begins n) rs) (t.starts n pos) ∙ ap (λ s. one_if (not (is_waiting s))) (sym (v.states n));
  on = λ n pos. start_runs (eqb c n) (state_of ns n) (begun n) (runs n rs) (t.on n pos) ∙ ap is_running (sym (v.states n));
  well = λ n pos. let old : how_many (ends_well n) (StartInSlot m c ∷ rs) ≡ one_if (is_good (state_of ns n)) = omega (arith, t.well n pos) in start_well (eqb c n) (state_of ns n) (begun n) _ old ∙ ap (λ s. one_if (is_good s)) (sym (v.states n));
}
  where
    begun : (n : ℕ) → eqb c n ≡ true → is_waiting (state_of ns n) ≡ true
    begun n e = ap (λ j. is_waiting (state_of ns j)) (sym (eqb-true c n e)) ∙ waits

pub told_token : {ns ms : List Progress} {ts : List Held} {rs : List Record} → Told ns ts rs → (m c byte : ℕ) → Turned c Running ns ms → is_waiting (state_of ns c) ≡ true → Told ms (of_make m byte ∷ ts) (StartWithToken m c byte ∷ rs)
told_token {ns} {ms} {ts} {rs} t m c byte v waits = record {
  tokens = λ j k. omega (arith, t.tokens j k);
  own = own_more (StartWithToken m c byte) rs (λ j k e. let z : ◌≡◌ {A = ℕ} 0 1 = cc in absurd (omega arith)) t.own;
  starts = λ n pos. start_counted (eqb c n) (state_of ns n) (begun n) (how_many (begins n) rs) (t.starts n pos) ∙ ap (λ s. one_if (not (is_waiting s))) (sym (v.states n));
  on = λ n pos. start_runs (eqb c n) (state_of ns n) (begun n) (runs n rs) (t.on n pos) ∙ ap is_running (sym (v.states n));
  well = λ n pos. let old : how_many (ends_well n) (StartWithToken m c byte ∷ rs) ≡ one_if (is_good (state_of ns n)) = omega (arith, t.well n pos) in start_well (eqb c n) (state_of ns n) (begun n) _ old ∙ ap (λ s. one_if (is_good s)) (sym (v.states n));
}
  where
    begun : (n : ℕ) → eqb c n ≡ true → is_waiting (state_of ns n) ≡ true
    begun n e = ap (λ j. is_waiting (state_of ns j)) (sym (eqb-true c n e)) ∙ waits

-- an end of node c
module _ (x : Bool) (s how : State) (ended : is_ended how ≡ true) (ran : x ≡ true → is_running s ≡ true) where
  begun_still : (u : State) → is_ended u ≡ true → one_if (not (is_waiting u)) ≡ 1
  begun_still Waiting e = absurd (false≢true e)
  begun_still Running e = absurd (false≢true e)
  begun_still Good e = refl
  begun_still (Failed c) e = refl

  run_begun : (u : State) → is_running u ≡ true → one_if (not (is_waiting u)) ≡ 1
  run_begun Waiting e = absurd (false≢true e)
  run_begun Running e = refl
  run_begun Good e = refl
  run_begun (Failed c) e = refl

  run_unfinished : (u : State) → is_running u ≡ true → one_if (is_good u) ≡ 0
  run_unfinished Waiting e = refl
  run_unfinished Running e = refl
  run_unfinished Good e = absurd (false≢true e)
  run_unfinished (Failed c) e = refl

  stopped_now : (u : State) → is_ended u ≡ true → false ≡ is_running u
  stopped_now Waiting e = refl
  stopped_now Running e = absurd (false≢true e)
  stopped_now Good e = refl
  stopped_now (Failed c) e = refl

  end_counted : (h : ℕ) → h ≡ one_if (not (is_waiting s)) → h ≡ one_if (not (is_waiting (cond x how s)))
  end_counted h e = by x refl
    where
      by : (y : Bool) → x ≡ y → h ≡ one_if (not (is_waiting (cond y how s)))
      by true is = e ∙ run_begun s (ran is) ∙ sym (begun_still how ended)
      by false is = e

  end_runs : (r : Bool) → r ≡ is_running s → cond x false r ≡ is_running (cond x how s)
  end_runs r e = by x
    where
      by : (y : Bool) → cond y false r ≡ is_running (cond y how s)
      by true = stopped_now how ended
      by false = e

  end_well : (h : ℕ) → h ≡ one_if (is_good s) → one_if (x && is_good how) + h ≡ one_if (is_good (cond x how s))
  end_well h e = by x refl
    where
      by : (y : Bool) → x ≡ y → one_if (y && is_good how) + h ≡ one_if (is_good (cond y how s))
      by true is = omega (arith, e, run_unfinished s (ran is))
      by false is = omega (arith, e)

pub told_well : {ns ms : List Progress} {ts : List Held} {rs : List Record} → Told ns ts rs → (c : ℕ) → Turned c Good ns ms → is_running (state_of ns c) ≡ true → Told ms ts (EndedWell c ∷ rs)
told_well {ns} {ms} {ts} {rs} t c v runs-c = record {
  tokens = λ j k. omega (arith, t.tokens j k);
  own = own_more (EndedWell c) rs (λ j k e. let z : ◌≡◌ {A = ℕ} 0 1 = cc in absurd (omega arith)) t.own;
  starts = λ n pos. let old : how_many (begins n) (EndedWell c ∷ rs) ≡ one_if (not (is_waiting (state_of ns n))) = omega (arith, t.starts n pos) in end_counted (eqb c n) (state_of ns n) Good refl (ran n) _ old ∙ ap (λ s. one_if (not (is_waiting s))) (sym (v.states n));
  on = λ n pos. end_runs (eqb c n) (state_of ns n) Good refl (ran n) (runs n rs) (t.on n pos) ∙ ap is_running (sym (v.states n));
  well = λ n pos. ap (λ u. one_if u + how_many (ends_well n) rs) (sym (and_true (eqb c n))) ∙ end_well (eqb c n) (state_of ns n) Good refl (ran n) (how_many (ends_well n) rs) (t.well n pos) ∙ ap (λ s. one_if (is_good s)) (sym (v.states n));
}
  where
    and_true : (u : Bool) → (u && true) ≡ u
    and_true true = refl
    and_true false = refl

    ran : (n : ℕ) → eqb c n ≡ true → is_running (state_of ns n) ≡ true
    ran n e = ap (λ j. is_running (state_of ns j)) (sym (eqb-true c n e)) ∙ runs-c

pub told_failed : {ns ms : List Progress} {ts : List Held} {rs : List Record} → Told ns ts rs → (c : ℕ) (cause : Cause) (number : ℕ) → Turned c (Failed cause) ns ms → is_running (state_of ns c) ≡ true → Told ms ts (EndedFailed c number ∷ rs)
told_failed {ns} {ms} {ts} {rs} t c cause number v runs-c = record {
  tokens = λ j k. omega (arith, t.tokens j k);
  own = own_more (EndedFailed c number) rs (λ j k e. let z : ◌≡◌ {A = ℕ} 0 1 = cc in absurd (omega arith)) t.own;
  starts = λ n pos. let old : how_many (begins n) (EndedFailed c number ∷ rs) ≡ one_if (not (is_waiting (state_of ns n))) = omega (arith, t.starts n pos) in end_counted (eqb c n) (state_of ns n) (Failed cause) refl (ran n) _ old ∙ ap (λ s. one_if (not (is_waiting s))) (sym (v.states n));
  on = λ n pos. end_runs (eqb c n) (state_of ns n) (Failed cause) refl (ran n) (runs n rs) (t.on n pos) ∙ ap is_running (sym (v.states n));
  well = λ n pos. let none : one_if (eqb c n && false) ≡ 0 = one_false _ (and_false (eqb c n)) in omega (arith, none, end_well (eqb c n) (state_of ns n) (Failed cause) refl (ran n) (how_many (ends_well n) rs) (t.well n pos), ap (λ s. one_if (is_good s)) (v.states n));
}
  where
    and_false : (u : Bool) → (u && false) ≡ false
    and_false true = refl
    and_false false = refl

    ran : (n : ℕ) → eqb c n ≡ true → is_running (state_of ns n) ≡ true
    ran n e = ap (λ j. is_running (state_of ns j)) (sym (eqb-true c n e)) ∙ runs-c

-- a token of the make goes back
pub told_back : {ns : List Progress} {ts : List Held} {rs : List Record} → Told ns ts rs → (m : ℕ) (f : ℕ × List Held) → goes_back m ts ≡ Some f → Told ns f.1 (PutBack m f.0 ∷ rs)
told_back {ns} {ts} {rs} t m f e = record {
  tokens = λ j k. omega (arith, t.tokens j k, goes_some m ts f e (is_held j k));
  own = own_more (PutBack m f.0) rs
      (λ j k is.
      let make : m ≡ j = cc in
      let byte : f.0 ≡ k = cc in
      let held = goes_some m ts f e (is_held j k) in
      let one : one_if (is_held j k (of_make m f.0)) ≡ 1 = one_true _ (and_from _ _ (eq-eqb m j make) (eq-eqb f.0 k byte)) in
      omega (arith, t.tokens j k, held, one))
      t.own;
  starts = λ n pos. omega (arith, t.starts n pos);
  on = t.on;
  well = λ n pos. omega (arith, t.well n pos);
}

-- what the record of the finish says, by what became of the top make
abbrev pub verdict : State → Option ℕ
verdict Waiting = None
verdict Running = None
verdict Good = Some 0
verdict (Failed c) = Some 1

module _ {P : Type 0} (store : Store P) (old : List Record) where
  abbrev pub Tells : Run P → Type 0
  Tells r = Told r.build.nodes r.build.tokens (r.records ++ old)

  abbrev pub Finishes : Run P → Type 0
  Finishes r = finish_of (r.records ++ old) ≡ verdict (state_of r.build.nodes 0)

  -- of a build that was opened, and whose table of nodes is whole
  pub record Kept (r : Run P) : Type 0 where
    pub whole : length r.build.nodes ≡ r.build.plan.nodes
    pub begun : is_waiting (state_of r.build.nodes 0) ≡ false
    pub told : Tells r
    pub finish : Finishes r

  tells_ended : (how : State) (n : ℕ) (r : Run P) → is_ended how ≡ true → n < length r.build.nodes → is_running (state_of r.build.nodes n) ≡ true → Tells r → Tells (ends_so how n r)
  tells_ended Waiting n r ended within on t = absurd (false≢true ended)
  tells_ended Running n r ended within on t = absurd (false≢true ended)
  tells_ended Good n r ended within on t = told_well t n (turned r.build.nodes n Good within) on
  tells_ended (Failed c) n r ended within on t = told_failed t n c _ (turned r.build.nodes n (Failed c) within) on

  kept_found : (m : ℕ) (o : Option (ℕ × List Held)) (r : Run P) → goes_back m r.build.tokens ≡ o → Kept r → Kept (put_found store m o r)
  kept_found m None r e k = k
  kept_found m (Some f) r e k = record { whole = k.whole; begun = k.begun; told = told_back k.told m f e; finish = k.finish }

  kept_mark : (how : State) (m n : ℕ) (r : Run P) → Kept r → Kept (mark how m n r)
  kept_mark Waiting m n r k = k
  kept_mark Running m n r k = k
  kept_mark Good m n r k = k
  kept_mark (Failed c) m n r k =
      let x = marked r.build.keep n (at r.build m) in
      let same : (i : ℕ) → state_of (set r.build.nodes m x) i ≡ state_of r.build.nodes i = λ i. set_keeps (λ y. y.state) r.build.nodes m x unbegun i refl in
      record { whole = length-set r.build.nodes m x ∙ k.whole; begun = ap is_waiting (same 0) ∙ k.begun; told = told_same k.told (λ i pos. same i); finish = k.finish ∙ ap verdict (sym (same 0)) }

  kept_ended : (how : State) (n : ℕ) (r : Run P) → 0 < n → is_ended how ≡ true → Due r.build.plan r.build.nodes how n → Kept r → Kept (ends_so how n r)
  kept_ended Waiting n r pos ended due k = absurd (false≢true ended)
  kept_ended Running n r pos ended due k = absurd (false≢true ended)
  kept_ended Good n r pos ended due k =
      let within : n < length r.build.nodes = omega (arith, due.within, k.whole) in
      record {
        whole = length-set r.build.nodes n _ ∙ k.whole;
        begun = ap is_waiting (turned_there (turned r.build.nodes n Good within) 0 (λ e. omega arith)) ∙ k.begun;
        told = tells_ended Good n r ended within due.runs k.told;
        finish = k.finish ∙ ap verdict (sym (turned_there (turned r.build.nodes n Good within) 0 (λ e. omega arith)));
      }
  kept_ended (Failed c) n r pos ended due k =
      let within : n < length r.build.nodes = omega (arith, due.within, k.whole) in
      record {
        whole = length-set r.build.nodes n _ ∙ k.whole;
        begun = ap is_waiting (turned_there (turned r.build.nodes n (Failed c) within) 0 (λ e. omega arith)) ∙ k.begun;
        told = tells_ended (Failed c) n r ended within due.runs k.told;
        finish = k.finish ∙ ap verdict (sym (turned_there (turned r.build.nodes n (Failed c) within) 0 (λ e. omega arith)));
      }

  finish_end : (x : Progress) → Some (cond (is_some x.first_failed) 1 0) ≡ verdict (make_end x)
  finish_end x = by (is_some x.first_failed)
    where
      by : (t : Bool) → Some (cond t 1 0) ≡ verdict (cond t (Failed causes.FailedChild) Good)
      by true = refl
      by false = refl

  kept_top : (how : State) (r : Run P) → how ≡ make_end (at r.build 0) → is_ended how ≡ true → Due r.build.plan r.build.nodes how 0 → Kept r → Kept (finish (ends_so how 0 r))
  kept_top Waiting r so ended due k = absurd (false≢true ended)
  kept_top Running r so ended due k = absurd (false≢true ended)
  kept_top Good r so ended due k =
      let within : 0 < length r.build.nodes = omega (arith, due.within, k.whole) in
      let x = with_state (at r.build 0) Good in
      let now : get_or (set r.build.nodes 0 x) 0 unbegun ≡ x = get_or-set_same r.build.nodes 0 x unbegun within in
      record {
        whole = length-set r.build.nodes 0 _ ∙ k.whole;
        begun = ap (λ y. is_waiting y.state) now;
        told = told_quiet (tells_ended Good 0 r ended within due.runs k.told) (Finished _) (quiet_finished _);
        finish = ap (λ y. Some (cond (is_some y.first_failed) 1 0)) now ∙ finish_end (at r.build 0) ∙ ap verdict (sym so) ∙ ap (λ y. verdict y.state) (sym now);
      }
  kept_top (Failed c) r so ended due k =
      let within : 0 < length r.build.nodes = omega (arith, due.within, k.whole) in
      let x = with_state (at r.build 0) (Failed c) in
      let now : get_or (set r.build.nodes 0 x) 0 unbegun ≡ x = get_or-set_same r.build.nodes 0 x unbegun within in
      record {
        whole = length-set r.build.nodes 0 _ ∙ k.whole;
        begun = ap (λ y. is_waiting y.state) now;
        told = told_quiet (tells_ended (Failed c) 0 r ended within due.runs k.told) (Finished _) (quiet_finished _);
        finish = ap (λ y. Some (cond (is_some y.first_failed) 1 0)) now ∙ finish_end (at r.build 0) ∙ ap verdict (sym so) ∙ ap (λ y. verdict y.state) (sym now);
      }

  -- a child that may start lies in the table
  started : (r : Run P) (s : Start) → length r.build.nodes ≡ r.build.plan.nodes → Startable r.build s.make s.child → Turned s.child Running r.build.nodes (set r.build.nodes s.child (with_state (at r.build s.child) Running)) × (0 < s.child)
  started r s whole st =
      let below = (startable_child r.build s.make s.child st).0 in
      (turned r.build.nodes s.child Running (omega (arith, below.1, whole)), below.0)

  pub keeping_told : Keeping store Kept
  keeping_told = record {
    on_slot = λ s r i k.
        let st = started r s k.whole i.child in
        record { whole = length-set r.build.nodes s.child _ ∙ k.whole; begun = ap is_waiting (turned_there st.0 0 (λ e. omega (arith, st.1))) ∙ k.begun; told = told_slot k.told s.make s.child st.0 i.child.unbegun; finish = k.finish ∙ ap verdict (sym (turned_there st.0 0 (λ e. omega (arith, st.1)))) };
    on_token = λ s byte p r w e k.
        let st = started r s k.whole w.child in
        record { whole = length-set r.build.nodes s.child _ ∙ k.whole; begun = ap is_waiting (turned_there st.0 0 (λ e. omega (arith, st.1))) ∙ k.begun; told = told_token k.told s.make s.child byte st.0 w.child.unbegun; finish = k.finish ∙ ap verdict (sym (turned_there st.0 0 (λ e. omega (arith, st.1)))) };
    on_none = λ p r e k. record { whole = k.whole; begun = k.begun; told = k.told; finish = k.finish };
    on_child = λ how n r pos ended due k. kept_mark how (r.build.plan.make n) n _ (kept_found (r.build.plan.make n) _ (ends_so how n r) refl (kept_ended how n r pos ended due k));
    on_top = kept_top;
  }
