-- What every build keeps, as facts and as one statement. Assumes nothing.
use Rattle.std.proofs.Common.{◌≡◌, true, refl, ap, inl, arith, List, Result, ℕ}
use Rattle.build.proofs.Fitting.{fits}
use Rattle.build.specs.Keeps.{Lives, Paid, Works, is_good, AllGood, Blamed, GoesOn, AllDone, Idles, Untouched, Unstopped, StoppedWhy, Roomy}
use Rattle.build.specs.Models.{status}
use Rattle.build.specs.declared.state.Build.{Build as BuildOf}
use Rattle.build.specs.declared.work.Work.{Work}
use Rattle.law.proofs.Planning.{trees_planned}
use Rattle.law.proofs.Sounding.{sound_call}
use Rattle.law.specs.Calls.{Called, Request}
use Rattle.pool.specs.Ways.{Ways}
use Rattle.rules.specs.declared.refusal.Refusal.{Refusal}
use Rattle.law.specs.Sound.{Sound}
use Rattle.rules.specs.declared.progress.State.{State}
use Rattle.rules.specs.declared.progress.State.TheVariants.{Waiting, Running, Good, Failed}
use Rattle.std.proofs.lemmas.Bool.{false≢true}

good_is : (s : State) → is_good s ≡ true → s ≡ Good
good_is Waiting e = absurd (false≢true e)
good_is Running e = absurd (false≢true e)
good_is Good e = refl
good_is (Failed c) e = absurd (false≢true e)

-- all of it
abbrev pub Kept : Work → Type 0
Kept e = record {
  lives : Lives e;
  paid : Paid e;
  works : Works e;
  good : AllGood e;
  blamed : Blamed e;
  going : GoesOn e;
  done : AllDone e;
  idles : Idles e;
  untouched : Untouched e;
  unstopped : Unstopped e;
  why : StoppedWhy e;
  roomy : Roomy e;
}

pub kept_by : (e : Work) → Sound (status e) → Kept e
kept_by e s = record {
  lives = s.shape.lives;
  paid = s.shape.paid;
  works = s.busy;
  good = λ n b g. ap is_good (s.shape.good n b (good_is _ g));
  blamed = s.shape.failed;
  going = λ n w job r. s.shape.going n w job (λ e. omega arith) r;
  done = λ n h. s.shape.full n h.0 h.1 (good_is _ h.2);
  idles = s.shape.fresh;
  untouched = s.shape.untouched;
  unstopped = s.shape.unstopped refl;
  why = s.shape.marked refl;
  roomy = s.room;
}

pub sound_by : (b : BuildOf) → Sound (status b.work)
sound_by b = record {
  shape = record {
    planned = trees_planned b.work.tree;
    whole = (fits b.work).whole;
    lives = b.lives;
    paid = b.paid;
    good = λ n below g. good_is _ (b.good n below (ap is_good g));
    failed = b.blamed;
    going = λ n within job other r. b.going n within job r;
    full = λ n within job g. b.done n (within, job, ap is_good g);
    fresh = b.idles;
    untouched = b.untouched;
    unstopped = λ calm. b.unstopped;
    marked = λ calm. b.why;
    able = λ m within make other r. inl (b.works m within make r);
  };
  busy = b.works;
  room = b.roomy;
}

-- after a call on a build that keeps it
pub kept_call : {P : Type 0} (w : Ways P) (c : Request) (b : BuildOf) (e : Work) (p q : P) (old new : List ℕ) (r : Result ℕ Refusal) → Called w c (status b.work) p old r (status e) q new → Kept e
kept_call w c b e p q old new r called = kept_by e (sound_call w c (status b.work) (status e) p q old new r (sound_by b) called)
