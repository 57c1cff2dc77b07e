-- Every token goes back directly behind the end that brought it. Assumes nothing.
use Rattle.std.proofs.Common.{◌≡◌, ℕ, zero, suc, Bool, true, false, cond, eqb, List, [], ◌∷◌, Some, None, Option, sym, refl, ◌∙◌, subst}
use Rattle.rules.specs.Builds.{Build, Held, running_jobs, with_node, finished, at}
use Rattle.rules.specs.Calls.{noted, on_build, opening, step_run, kill_run, halt_run, rounds_by, step_each, end_all, last_step, stop_all, stop, stepped}
use Rattle.rules.specs.Ending.{put_found, put_one, goes_back, mark, ends_so, finish, end_by, end_node, make_end, is_over}
use Rattle.rules.specs.Lists.{if_so, is_some}
use Rattle.rules.specs.Plans.{all_makes}
use Rattle.rules.specs.Returns.{Returns, Keeps, Returned}
use Rattle.rules.specs.Settling.{Store, Run, start_in_slot, start_with_token, settle}
use Rattle.rules.specs.Words.{is_ended}
use Rattle.rules.proofs.Held.{if_holds, settle_holds}
use Rattle.rules.specs.declared.progress.Progress.{Progress}
use Rattle.rules.specs.declared.progress.State.{State}
use Rattle.rules.specs.declared.progress.State.TheVariants.{Waiting, Running, Good, Failed}
use Rattle.schedule.specs.declared.cause.Cause.TheVariants as causes
use Rattle.schedule.specs.declared.record.Record.TheVariants.{Step, Kill, Halt}
use Rattle.std.proofs.lemmas.Bool.{false≢true}
use Rattle.tree.specs.declared.node.Kind.{Kind}
use Rattle.tree.specs.declared.node.Kind.TheVariants.{Make, Job, Fail}

pub make_ended : (x : Progress) → is_ended (make_end x) ≡ true
make_ended x = either (is_some x.first_failed)
  where
    either : (t : Bool) → is_ended (cond t (Failed causes.FailedChild) Good) ≡ true
    either true = refl
    either false = refl

pub last_ended : (k : Kind) → is_ended (last_step k) ≡ true
last_ended Make = refl
last_ended Job = refl
last_ended Fail = refl

pub stop_plan : (ms : List ℕ) (b : Build) → (stop_all ms b).plan ≡ b.plan
stop_plan [] b = refl
stop_plan (m ∷ ms) b = stop_plan ms (with_node b m (stop (at b m)))

module _ {P : Type 0} where
  keeps_same : (r : Run P) → Keeps r r
  keeps_same r = (refl, λ h. h)

  keeps_both : (r r₁ r₂ : Run P) → Keeps r r₁ → Keeps r₁ r₂ → Keeps r r₂
  keeps_both r r₁ r₂ f g = (g.0 ∙ f.0, λ h. subst (λ t. Returns t r₂.records) f.0 (g.1 (subst (λ t. Returns t r₁.records) (sym f.0) (f.1 h))))

  module _ (store : Store P) where
    keeps_settle : (r : Run P) → Keeps r (settle store r)
    keeps_settle r =
        settle_holds store (Keeps r) (λ s q h. keeps_both r q (start_in_slot s q) h (refl, λ x. (tt, x)))
        (λ s b p q h. keeps_both r q (start_with_token s b p q) h (refl, λ x. (tt, x))) (λ p q h. h) r (keeps_same r)

    -- an end and the token that it brings back
    keeps_found : (how : State) (n : ℕ) (r : Run P) (o : Option (ℕ × List Held)) → is_ended how ≡ true → Keeps r (put_found store (r.build.plan.make n) o (ends_so how n r))
    keeps_found Waiting n r o e = absurd (false≢true e)
    keeps_found Running n r o e = absurd (false≢true e)
    keeps_found Good n r None e = (refl, λ h. (tt, h))
    keeps_found Good n r (Some x) e = (refl, λ h. (refl, (tt, h)))
    keeps_found (Failed c) n r None e = (refl, λ h. (tt, h))
    keeps_found (Failed c) n r (Some x) e = (refl, λ h. (refl, (tt, h)))

    keeps_ends : (how : State) (n : ℕ) (r : Run P) → Keeps r (ends_so how n r)
    keeps_ends Waiting n r = keeps_same r
    keeps_ends Running n r = keeps_same r
    keeps_ends Good n r = (refl, λ h. (tt, h))
    keeps_ends (Failed c) n r = (refl, λ h. (tt, h))

    keeps_mark : (how : State) (m n : ℕ) (r : Run P) → Keeps r (mark how m n r)
    keeps_mark Waiting m n r = keeps_same r
    keeps_mark Running m n r = keeps_same r
    keeps_mark Good m n r = keeps_same r
    keeps_mark (Failed c) m n r = (refl, λ h. h)

    keeps_end : (fuel : ℕ) (how : State) (n : ℕ) (r : Run P) → is_ended how ≡ true → Keeps r (end_by store fuel how n r)
    keeps_end zero how n r e = keeps_same r
    keeps_end (suc fuel) how n r e =
        let ended = ends_so how n r in
        let m = r.build.plan.make n in
        let one = put_one store m ended in
        let back = mark how m n one in
        let so_far = keeps_both r one back (keeps_found how n r (goes_back m ended.build.tokens) e) (keeps_mark how m n one) in
        if_holds (Keeps r) (eqb n 0) (λ _. finish ended) _
        (λ _. keeps_both r ended (finish ended) (keeps_ends how n r) (refl, λ h. (tt, h)))
        (λ _. if_holds (Keeps r) (is_over back.build m) (λ _. end_by store fuel (make_end (at back.build m)) m back) (λ _. back)
        (λ _. keeps_both r back (end_by store fuel (make_end (at back.build m)) m back) so_far (keeps_end fuel (make_end (at back.build m)) m back (make_ended (at back.build m))))
        (λ _. so_far))

    keeps_node : (how : State) (n : ℕ) (r : Run P) → is_ended how ≡ true → Keeps r (end_node store how n r)
    keeps_node how n r e = keeps_end (suc n) how n r e

    steps : (n : ℕ) (r : Run P) → Keeps r (step_run store n r)
    steps n r =
        let one = on_build (λ b. with_node b n (stepped (at b n))) (noted (Step n) r) in
        let how = last_step (one.build.plan.kind n) in
        let t = eqb (at one.build n).done (one.build.plan.steps n) in
        let last = if_so t (λ _. end_node store how n one) (λ _. one) in
        keeps_both r last (settle store last)
        (keeps_both r one last (refl, λ h. (tt, h)) (if_holds (Keeps one) t (λ _. end_node store how n one) (λ _. one) (λ _. keeps_node how n one (last_ended (one.build.plan.kind n))) (λ _. keeps_same one)))
        (keeps_settle last)

    kills : (n : ℕ) (r : Run P) → Keeps r (kill_run store n r)
    kills n r =
        let one = noted (Kill n) r in
        let ended = end_node store (Failed causes.Kill) n one in
        keeps_both r ended (settle store ended) (keeps_both r one ended (refl, λ h. (tt, h)) (keeps_node (Failed causes.Kill) n one refl)) (keeps_settle ended)

    keeps_all : (ns : List ℕ) (r : Run P) → Keeps r (end_all store ns r)
    keeps_all [] r = keeps_same r
    keeps_all (n ∷ ns) r =
        let one = end_node store (Failed causes.Halt) n r in
        keeps_both r one (end_all store ns one) (keeps_node (Failed causes.Halt) n r refl) (keeps_all ns one)

    halts : (r : Run P) → Keeps r (halt_run store r)
    halts r =
        let one = on_build (λ b. stop_all (all_makes b.plan) b) (noted Halt r) in
        keeps_both r one (end_all store (running_jobs r.build) one) (stop_plan (all_makes r.build.plan) r.build, λ h. (tt, h)) (keeps_all (running_jobs r.build) one)

    keeps_each : (ns : List ℕ) (r : Run P) → Keeps r (step_each store ns r)
    keeps_each [] r = keeps_same r
    keeps_each (n ∷ ns) r = keeps_both r (step_run store n r) (step_each store ns (step_run store n r)) (steps n r) (keeps_each ns (step_run store n r))

    keeps_rounds : (n : ℕ) (r : Run P) → Keeps r (rounds_by store n r)
    keeps_rounds zero r = keeps_same r
    keeps_rounds (suc n) r =
        let one = step_each store (running_jobs r.build) r in
        if_holds (Keeps r) (finished r.build) (λ _. r) (λ _. rounds_by store n one) (λ _. keeps_same r) (λ _. keeps_both r one (rounds_by store n one) (keeps_each (running_jobs r.build) r) (keeps_rounds n one))

  pub returned : Returned P
  returned = record {
    opens = λ store t keep tokens p. (keeps_settle store (opening t keep tokens p)).1 (tt, tt);
    steps = steps;
    kills = kills;
    polls = keeps_settle;
    halts = halts;
    rounds = λ store r. keeps_rounds store r.build.plan.all_steps r;
  }
