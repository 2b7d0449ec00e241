use Rattle.std.proofs.Common.{◌≡◌, ◌∷◌, decimal, sym, subst, rules, List, ℕ}
use Rattle.ebpf_command.specs.Json.{number_list}
use Rattle.ebpf_command.specs.Writing.{Puts}
use Rattle.ebpf_command.proofs.Sending.{puts_then}
use Rattle.ebpf_report.proofs.outcome_json.put_numbers.Goals as goal

pub returns : goal.returns
returns g c =
    let here : c.as_bytes.result.now ≡ decimal c.in-Some.first.now = search rules in
    let all : c.args.numbers.now ≡ c.in-Some.first.now ∷ c.in-Some.later.now = search rules in
    subst (λ (ns : List ℕ). Puts (g.W.Write.contents c.args.writer.now) (g.W.Write.contents c.put_later_numbers.new.writer) c.args.piece.now c.put_later_numbers.new.piece (number_list ns) c.put_later_numbers.result) (sym all)
    (puts_then _ _ _ _ _ _ _ _ _ (rw here at c.in_ok-put.ensures) c.put_later_numbers.ensures)
