-- `lines::put_lines`: at each turn what the lines from here on come to, put behind what is put, is the whole.
use mathlib.Core.Path.{refl}
use borrow.Author.Rules.{rules}
use Rattle.converting.proofs.LinesPut.{none_put, line_put, all_put}
use Rattle.converting.proofs.lines.put_lines.Goals as goal

pub loop-at-init : goal.loop-at-init
loop-at-init c = record { lent = refl; puts = rw (c.new-output.ensures.buffer, c.new-output.ensures.length) (none_put c.requires) }

pub loop-at-preserved : goal.loop-at-preserved
loop-at-preserved c = record {
  lent = cc;
  puts = line_put c.loop-at.invariant.puts c.line_at-line.ensures c.put_line.ensures.puts c.put_byte.ensures.puts;
}

pub returns : goal.returns
returns c = let all = all_put c.loop-at.invariant.puts c.loop-at-test.false in search (rules, all)
