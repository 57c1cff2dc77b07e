use Rattle.std.proofs.Common.{string_bytes, sym, refl, subst}
use Rattle.first_line.specs.Head.{told_choice}
use Rattle.report.specs.Report.{Scripted}
use Rattle.tree.specs.Questions.{nodes_of}
use Rattle.report.proofs.reports.script_report.Goals as goal

pub returns-in-Ok : goal.returns-in-Ok
returns-in-Ok c =
    let tree = c.read_script.new.tree in
    let comes_to = c.read_script.ensures.law.comes_to (nodes_of tree) c.in-Ok.ensures.result in
    record {
      result = subst (λ a. Scripted (told_choice c.args.line.pool) a (string_bytes c.push_tree.new.text)) (sym comes_to) (record {
        round = string_bytes c.in_ok-text-in-Ok.text;
        told = c.in_ok-text-in-Ok.ensures.result;
        tree = tree;
        same = refl;
        lines = c.in_ok-push_tree-in-Ok.ensures.after;
      });
    }
