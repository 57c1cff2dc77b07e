-- What a pipe of `x` and `y` answers to an open of the worked script's tree, and what is written then. Assumes nothing.
use Rattle.std.proofs.Common.{◌≡◌, ℕ, false, List, [], ◌∷◌, reverse, length, take, IfOk, Ok, Err, codes, Result, sym, refl, ap, ◌∙◌, subst, arith}
use Rattle.concluding.specs.Working.{records_xy, OpenedXy}
use Rattle.law.specs.Answers.{Answers, answering, unasked}
use Rattle.law.specs.Calls.{Status, Opened}
use Rattle.lines.specs.Words.{parts}
use Rattle.pipe.specs.Pipes.{line, AllIn, pipe_ways}
use Rattle.pipe.specs.declared.state.Pipe.{Pipe}
use Rattle.pool.specs.Chain.{Did, Chain}
use Rattle.pool.specs.Meaning.{count, sum_below, total as all_counts}
use Rattle.rules.specs.Calls.{open_run}
use Rattle.rules.specs.Cases.{script_z, planned, plan_z}
use Rattle.rules.specs.Plans.{plan_of}
use Rattle.rules.specs.Refusing.{answer}
use Rattle.rules.specs.Settling.{Run}
use Rattle.rules.specs.declared.refusal.Refusal.{Refusal}
use Rattle.schedule.specs.Buffers.{Wrote}
use Rattle.schedule.specs.Records.{encoded}
use Rattle.script.specs.Reading.{read_text, read_parts}
use Rattle.std.specs.Fmt.{digits}
use Rattle.tree.specs.Nodes.{total}
use Rattle.tree.specs.declared.node.Node.{Node}

-- the open, with so many tokens in the pool and these answers
abbrev run_z : ℕ → List ℕ → Run Answers
run_z tokens given = open_run answering plan_z false tokens (unasked given)

-- two bytes that left a line of `x` and `y` are those
two_left : (l l₁ l₂ : List ℕ) (b c : ℕ) → l ≡ 120 ∷ 121 ∷ [] → l ≡ b ∷ l₁ → l₁ ≡ c ∷ l₂ → (b ∷ c ∷ [] ≡ 120 ∷ 121 ∷ []) × (l₂ ≡ [])
two_left l l₁ l₂ b c is first second = ((cc), (cc))

-- so the pipe answered just those
answers_known : (p q : Pipe) (tokens : ℕ) (given : List ℕ) → line p ≡ 120 ∷ 121 ∷ [] → Chain (Did pipe_ways) (reverse (run_z tokens given).pool.asked) p q → (given ≡ 120 ∷ 121 ∷ []) × (line q ≡ [])
unfolding parts read_parts total digits
answers_known p q tokens [] is did = absurd (omega (arith, ap length is, did.1.0))
answers_known p q tokens (b ∷ []) is did = absurd (omega (arith, ap length is, ap length did.1.1, did.2.1.0))
answers_known p q tokens (b ∷ c ∷ []) is did =
    let two = two_left (line p) (line did.0) (line did.2.0) b c is did.1.1 did.2.1.1 in
    (two.0, ap line did.2.2.2 ∙ (ap line did.2.2.1.1 ∙ two.1))
answers_known p q tokens (b ∷ c ∷ d ∷ rest) is did =
    absurd (omega (arith, ap length is, ap length did.1.1, ap length did.2.1.1, ap length did.2.2.1.1))

-- two tokens are in
two_in : ◌≡◌ {A = ℕ} (all_counts (λ k. count k (120 ∷ 121 ∷ []))) 2
unfolding count sum_below all_counts
two_in = refl

-- what is then written
written_xy : ◌≡◌ {A = List ℕ} (encoded (reverse (run_z 2 (120 ∷ 121 ∷ [])).records)) (encoded records_xy)
unfolding parts read_parts total digits
written_xy = refl

-- three jobs run
running_xy : ◌≡◌ {A = ℕ} (answer (run_z 2 (120 ∷ 121 ∷ [])).build) 3
unfolding parts read_parts total digits
running_xy = refl

-- bytes that were written from the first place on
stand_first : (old new : List ℕ) (to : ℕ) → Wrote old 0 (encoded records_xy) new to → (to ≡ 18) × (take to new ≡ encoded records_xy)
stand_first old new to wrote = (wrote.end, λ i. take (wrote.end i) (wrote.after i))

opened_z : (before after : Status) (p q : Pipe) (old new : List ℕ) (n : ℕ) → line p ≡ 120 ∷ 121 ∷ [] → Opened pipe_ways plan_z false before p old (Ok n) after q new → OpenedXy n after q new
opened_z before after p q old new n is opened =
    let ran = opened.1 in
    let tokens : ℕ = all_counts (λ k. count k (line p)) in
    let two : tokens ≡ 2 = ap (λ (l : List ℕ). all_counts (λ k. count k l)) is ∙ two_in in
    let known = answers_known p q tokens ran.answers is ran.pool in
    let given = known.0 in
    let bytes : encoded (reverse (run_z tokens ran.answers).records) ≡ encoded records_xy = (λ i. encoded (reverse (run_z (two i) (given i)).records)) ∙ written_xy in
    let stands = stand_first old new after.written (subst (λ l. Wrote old 0 l new after.written) bytes ran.wrote) in
    record {
      running = opened.2 ∙ (ap answer ran.build ∙ ((λ i. answer (run_z (two i) (given i)).build) ∙ running_xy));
      empty = known.1;
      written = stands.0;
      bytes = stands.1;
    }

-- the same of nodes that are read from the worked script, where the open may have been refused
pub opened_xy : (ns : List Node) (before after : Status) (p q : Pipe) (old new : List ℕ) (r : Result ℕ Refusal) → Opened pipe_ways (plan_of ns) false before p old r after q new → read_text script_z ≡ Ok ns → AllIn (codes "xy") p → IfOk r (λ n. OpenedXy n after q new)
opened_xy ns before after p q old new (Ok n) opened reads all_in =
    opened_z before after p q old new n all_in.0
    (subst (λ x. Opened pipe_ways (planned x) false before p old (Ok n) after q new) (sym reads) opened)
opened_xy ns before after p q old new (Err e) opened reads all_in = tt
