-- What the questions about a build answer.
use Rattle.std.specs.Prelude.{◌≡◌, ℕ, ◌<◌, ◌≤◌, cond, false, List, [], Ok, Err, vec_items, nat_lt, Result}
use Rattle.rules.specs.Builds.{Build}
use Rattle.rules.specs.Plans.{Plan, is_make, children}
use Rattle.std.specs.Global.{Vec}
use Rattle.tree.specs.declared.questions.Unanswered.{Unanswered}
use Rattle.tree.specs.declared.questions.Unanswered.TheVariants.{NotInTree, NoMemory}

-- the answer to a question about node n, refused where n is not in the tree
abbrev pub told : {X : Type 0} → Build → ℕ → X → Result X Unanswered
told b n x = cond (nat_lt n b.plan.nodes) (Ok x) (Err NotInTree)

-- this list is the answer to a question about node n, which takes memory; refused where n is not in the tree
abbrev pub Listed : Build → ℕ → List ℕ → Result (Vec ℕ) Unanswered → Type 0
Listed b n xs (Ok v) = (n < b.plan.nodes) × (vec_items v ≡ xs)
Listed b n xs (Err NotInTree) = b.plan.nodes ≤ n
Listed b n xs (Err NoMemory) = n < b.plan.nodes

-- a job has no children
abbrev pub ChildlessJob : Plan → ℕ → Type 0
ChildlessJob t n = is_make t n ≡ false → children t n ≡ []
