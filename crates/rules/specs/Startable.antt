-- Which child of a make may start next.
use Rattle.std.specs.Prelude.{ℕ, Bool, true, false, cond, not, ◌&&◌, List, [], ◌∷◌, Some, None, Option}
use Rattle.rules.specs.Builds.{Build, at, running}
use Rattle.rules.specs.Lists.{when}
use Rattle.rules.specs.Plans.{children}
use Rattle.rules.specs.declared.progress.State.{State}
use Rattle.rules.specs.declared.progress.State.TheVariants.{Waiting, Running, Good, Failed}

-- the search at one child: the first that has not begun is the answer, if it is free to start
abbrev pub look : State → Bool → Bool → ℕ → (Bool → Option ℕ) → Option ℕ
look Waiting free ended k onward = cond free (Some k) None
look Running free ended k onward = onward false
look Good free ended k onward = onward ended
look (Failed c) free ended k onward = onward ended

-- along the children: `free` says that all before the nearest wait so far have ended, `ended` that all so far have
abbrev pub search_children : Build → Bool → Bool → List ℕ → Option ℕ
search_children b free ended [] = None
search_children b free ended (k ∷ ks) =
    let now-free = cond (b.plan.wait k) ended free in
    look (at b k).state now-free ended k (λ e. search_children b now-free e ks)

-- the child that the make may start: it is live and not stopped, the child is its first that has not begun,
-- and all children before the nearest wait have ended
abbrev pub startable : Build → ℕ → Option ℕ
startable b m = when (running b m && not (at b m).stopped) (λ _. search_children b true true (children b.plan m))
