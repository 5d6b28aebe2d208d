-- `convert::convert`: the scan's refusal, then the three rules in their order, then the lines are put.
use Prim.Native.Nat.{ℕ}
use mathlib.Core.Path.{◌≡◌, sym, ap, ◌∙◌}
use mathlib.Core.List.{List}
use Rattle.townfile.specs.FirstFault.{first_fault}
use Rattle.townfile.specs.Grammar.{Bytes}
use Rattle.townfile.specs.declared.progress.Progress.{Progress}
use Rattle.std.specs.Prelude.{Result, Ok}
use Rattle.townfile.specs.Answers.{reading_of}
use Rattle.townfile.specs.declared.fault.Fault.{Fault}
use Rattle.converting.proofs.Answers.{Faultless, in_lines, short_enough, length_told, hold_is_lost, no_room, replies}
use Rattle.converting.proofs.convert.convert.Goals as goal

found : (text : List ℕ) {scanned : Result Progress Fault} {p : Progress} → Bytes text → scanned ≡ Ok p → reading_of scanned ≡ first_fault text → Faultless text p
found text bytes is scans = record { bytes = bytes; read = ap reading_of (sym is) ∙ scans }

pub loses_hold-requires : goal.loses_hold-requires
loses_hold-requires c = in_lines (found c.args.text.now (λ i h. (c.type_inv.text i).fits) c.in_ok-progress.was c.scan.ensures)

pub returns-then-loses_hold : goal.returns-then-loses_hold
returns-then-loses_hold c =
    let known = found c.args.text.now (λ i h. (c.type_inv.text i).fits) c.in_ok-progress.was c.scan.ensures in
    let (answer, left) = hold_is_lost c.args.wanted c.args.text.now c.args.output.now known (sym c.is_form.ensures ∙ c.if-is_form.false)
    (sym c.loses_hold.ensures ∙ c.if-loses_hold.true) in
    record { answer = c.refuse-then-loses_hold.ensures ∙ answer; output = left }

pub result_length-length-requires : goal.result_length-length-requires
result_length-length-requires c =
    let known = found c.args.text.now (λ i h. (c.type_inv.text i).fits) c.in_ok-progress.was c.scan.ensures in
    record {
      length_len_bound = short_enough known;
      arcs_in_bounds = (length_told known c.args.wanted (sym c.is_form.ensures ∙ c.if-is_form.false)).holds_inside;
    }

pub returns-then-lacks_room : goal.returns-then-lacks_room
returns-then-lacks_room c =
    let known = found c.args.text.now (λ i h. (c.type_inv.text i).fits) c.in_ok-progress.was c.scan.ensures in
    let (answer, left) = no_room c.args.wanted c.args.text.now c.args.output.now known (sym c.is_form.ensures ∙ c.if-is_form.false)
    (sym c.loses_hold.ensures ∙ c.if-loses_hold.false) c.result_length-length.ensures (sym c.lacks_room.ensures ∙ c.if-lacks_room.true) in
    record { answer = c.refuse-then-lacks_room.ensures ∙ answer; output = left }

pub put_lines-requires : goal.put_lines-requires
put_lines-requires c = in_lines (found c.args.text.now (λ i h. (c.type_inv.text i).fits) c.in_ok-progress.was c.scan.ensures)

pub returns : goal.returns
returns c =
    let known = found c.args.text.now (λ i h. (c.type_inv.text i).fits) c.in_ok-progress.was c.scan.ensures in
    let (answer, left) = replies c.args.wanted c.args.text.now c.args.output.now known (sym c.is_form.ensures ∙ c.if-is_form.false)
    (sym c.loses_hold.ensures ∙ c.if-loses_hold.false) c.result_length-length.ensures (sym c.lacks_room.ensures ∙ c.if-lacks_room.false) c.put_lines.ensures in
    record { answer = answer; output = left }
