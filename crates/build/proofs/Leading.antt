-- Parts of a call that follow one another. Assumes nothing.
use Rattle.std.proofs.Common.{◌≡◌, ℕ, ◌≤◌, List, [], ◌++◌, reverse, length, sym, refl, ap, ◌∙◌, subst, append_assoc, append-nil}
use Rattle.law.specs.Answers.{Answers}
use Rattle.law.specs.Calls.{Ran}
use Rattle.pool.specs.Chain.{Op, Did, Chain}
use Rattle.pool.specs.Ways.{Ways}
use Rattle.pool.proofs.Chains.{chain_append}
use Rattle.rules.specs.Settling.{Run}
use Rattle.schedule.specs.Buffers.{Wrote}
use Rattle.schedule.specs.Records.{encoded}
use Rattle.schedule.specs.declared.record.Record.{Record}
use Rattle.schedule.proofs.Buffers.{wrote_none, wrote_both}
use Rattle.schedule.proofs.Encodings.{encoded_append}
use Rattle.std.proofs.lemmas.List.{reverse-append}
use Rattle.build.specs.Leads.{Point, on, Leads, Ends}

module _ {P : Type 0} (w : Ways P) where
  -- nothing is done yet
  pub leads_none : (f : Run Answers → Run Answers) (x : Point P) → x.status.written ≤ length x.buffer → Leads w f f x x
  leads_none f x h = record { answers = []; asked = []; records = []; runs = λ coming ops rs. refl; pool = refl; wrote = wrote_none x.buffer x.status.written h }

  -- both writes
  wrote_records : {a b c : List ℕ} {i j k : ℕ} (rs ss : List Record) → Wrote a i (encoded (reverse rs)) b j → Wrote b j (encoded (reverse ss)) c k → Wrote a i (encoded (reverse (ss ++ rs))) c k
  wrote_records {a} {b} {c} {i} {j} {k} rs ss v u =
      subst (λ l. Wrote a i l c k) (sym (ap encoded (reverse-append ss rs) ∙ encoded_append (reverse rs) (reverse ss))) (wrote_both v u)

  both_chains : (p q r : P) (os us : List Op) → Chain (Did w) (reverse os) p q → Chain (Did w) (reverse us) q r → Chain (Did w) (reverse (us ++ os)) p r
  both_chains p q r os us c d = subst (λ l. Chain (Did w) l p r) (sym (reverse-append us os)) (chain_append (Did w) (reverse os) (reverse us) p q r c d)

  -- one part behind another
  pub leads_both : {f g h : Run Answers → Run Answers} {x y z : Point P} → Leads w f g x y → Leads w g h y z → Leads w f h x z
  leads_both {f} {g} {h} {x} {y} {z} a b = record {
    answers = a.answers ++ b.answers;
    asked = b.asked ++ a.asked;
    records = b.records ++ a.records;
    runs = λ coming ops rs.
        ap (λ l. f (on x.status.build l ops rs)) (append_assoc a.answers b.answers coming)
        ∙ a.runs (b.answers ++ coming) ops rs
        ∙ b.runs coming (a.asked ++ ops) (a.records ++ rs)
        ∙ (λ i. h (on z.status.build coming (sym (append_assoc b.asked a.asked ops) i) (sym (append_assoc b.records a.records rs) i)));
    pool = both_chains x.pool y.pool z.pool a.asked b.asked a.pool b.pool;
    wrote = wrote_records a.records b.records a.wrote b.wrote;
  }

  -- the last part
  pub leads_end : {f g : Run Answers → Run Answers} {x y z : Point P} → Leads w f g x y → Ends w g y z → Ends w f x z
  leads_end {f} {g} {x} {y} {z} a b = record {
    answers = a.answers ++ b.answers;
    asked = b.asked ++ a.asked;
    records = b.records ++ a.records;
    runs = λ ops rs.
        a.runs b.answers ops rs
        ∙ b.runs (a.asked ++ ops) (a.records ++ rs)
        ∙ (λ i. on z.status.build [] (sym (append_assoc b.asked a.asked ops) i) (sym (append_assoc b.records a.records rs) i));
    pool = both_chains x.pool y.pool z.pool a.asked b.asked a.pool b.pool;
    wrote = wrote_records a.records b.records a.wrote b.wrote;
  }

  -- a part that leads to its own end
  pub ends_here : {f : Run Answers → Run Answers} {x y : Point P} → Leads w f (λ r. r) x y → Ends w f x y
  ends_here {f} {x} {y} a = record {
    answers = a.answers;
    asked = a.asked;
    records = a.records;
    runs = λ ops rs. ap (λ l. f (on x.status.build l ops rs)) (sym (append-nil a.answers)) ∙ a.runs [] ops rs;
    pool = a.pool;
    wrote = a.wrote;
  }

  -- with more of the rules to come
  pub leads_then : {f g : Run Answers → Run Answers} {x y : Point P} (h : Run Answers → Run Answers) → Leads w f g x y → Leads w (λ r. h (f r)) (λ r. h (g r)) x y
  leads_then h a = record { answers = a.answers; asked = a.asked; records = a.records; runs = λ coming ops rs. ap h (a.runs coming ops rs); pool = a.pool; wrote = a.wrote }

  -- the same by other words for the rules
  pub leads_as : {f g : Run Answers → Run Answers} {x y : Point P} (f' g' : Run Answers → Run Answers) → ((c : List ℕ) (o : List Op) (rs : List Record) → f' (on x.status.build c o rs) ≡ f (on x.status.build c o rs)) → ((c : List ℕ) (o : List Op) (rs : List Record) → g (on y.status.build c o rs) ≡ g' (on y.status.build c o rs)) → Leads w f g x y → Leads w f' g' x y
  leads_as f' g' before after a = record {
    answers = a.answers;
    asked = a.asked;
    records = a.records;
    runs = λ coming ops rs. before (a.answers ++ coming) ops rs ∙ a.runs coming ops rs ∙ after coming (a.asked ++ ops) (a.records ++ rs);
    pool = a.pool;
    wrote = a.wrote;
  }

  -- a whole run
  pub ran : (f : Run Answers → Run Answers) (x y : Point P) → Ends w f x y → Ran w (λ a. f (record { build = x.status.build; pool = a; records = [] })) x.status.written x.pool x.buffer y.status y.pool y.buffer
  ran f x y a =
      let whole = a.runs [] [] in
      record {
        answers = a.answers;
        build = sym (ap (λ r. r.build) whole);
        used = ap (λ r. r.pool.coming) whole;
        pool = subst (λ l. Chain (Did w) (reverse l) x.pool y.pool) (sym (ap (λ r. r.pool.asked) whole ∙ append-nil a.asked)) a.pool;
        wrote = subst (λ l. Wrote x.buffer x.status.written (encoded (reverse l)) y.buffer y.status.written) (sym (ap (λ r. r.records) whole ∙ append-nil a.records)) a.wrote;
      }
