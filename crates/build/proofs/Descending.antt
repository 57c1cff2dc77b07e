-- The fault of a node, from make to make down to a job. Assumes nothing.
use Rattle.std.proofs.Common.{◌≡◌, ℕ, suc, ◌-◌, ◌<◌, Bool, true, false, Some, None, Option, sym, refl, ap, ◌∙◌, arith}
use Rattle.rules.specs.Builds.{Build, at}
use Rattle.rules.specs.Faults.{Fault, of_child, fault_in, fault_by}
use Rattle.rules.specs.Lists.{if_so}
use Rattle.rules.specs.Plans.{is_make}
use Rattle.rules.specs.declared.progress.Progress.{Progress}
use Rattle.rules.specs.declared.progress.State.{State}
use Rattle.rules.specs.declared.progress.State.TheVariants.{Waiting, Running, Good, Failed}
use Rattle.schedule.specs.declared.cause.Cause.{Cause}
use Rattle.build.specs.Filling.{fault_from}

-- with no turn left there is none
pub no_turns : (b : Build) (turns n : ℕ) → turns ≡ 0 → fault_by b turns n ≡ None
no_turns b turns n e = ap (λ t. fault_by b t n) e

-- one turn, at a node that is so far
module _ (b : Build) (turns n : ℕ) (some : 0 < turns) (x : Progress) (so : x ≡ at b n) where
  turn : fault_by b turns n ≡ fault_in x.state b n (fault_by b (turns - 1))
  turn =
      let one : turns ≡ suc (turns - 1) = omega arith in
      ap (λ t. fault_by b t n) one ∙ ap (λ (y : Progress). fault_in y.state b n (fault_by b (turns - 1))) (sym so)

  -- it did not fail
  pub did_not_fail : ((c : Cause) → x.state ≡ Failed c → ⊥) → fault_by b turns n ≡ None
  did_not_fail not = turn ∙ none x.state refl
    where
      none : (s : State) → x.state ≡ s → fault_in s b n (fault_by b (turns - 1)) ≡ None
      none Waiting e = refl
      none Running e = refl
      none Good e = refl
      none (Failed c) e = absurd (not c e)

  module _ (c : Cause) (failed : x.state ≡ Failed c) where
    ways : Bool → Option Fault
    ways t = if_so t (λ _. of_child (at b n).first_failed (fault_by b (turns - 1))) (λ _. Some (fault_from b (record { job = n; cause = c })))

    turned : fault_by b turns n ≡ ways (is_make b.plan n)
    unfolding ways
    turned = turn ∙ ap (λ s. fault_in s b n (fault_by b (turns - 1))) failed

    -- a failed job
    pub failed_job : false ≡ is_make b.plan n → fault_by b turns n ≡ Some (fault_from b (record { job = n; cause = c }))
    unfolding ways
    failed_job job = turned ∙ ap ways (sym job)

    -- a failed make: by its child that failed first
    pub failed_make : true ≡ is_make b.plan n → (first : Option ℕ) → x.first_failed ≡ first → fault_by b turns n ≡ of_child first (fault_by b (turns - 1))
    unfolding ways
    failed_make make first is =
        turned ∙ ap ways (sym make) ∙ ap (λ (y : Progress). of_child y.first_failed (fault_by b (turns - 1))) (sym so)
        ∙ ap (λ o. of_child o (fault_by b (turns - 1))) is
