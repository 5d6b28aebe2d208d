-- `tree::enter`: from the leaf up each match leaves only that above its node unplayed (`Entering`), and above the root there is none.
use Rattle.std.proofs.Common.{◌≡◌, ◌+◌, ◌/◌, ◌%◌, arith}
use Rattle.tournament.proofs.Matches.{entering_starts, entering_plays, entering_ends}
use Rattle.tournament.proofs.tree.enter.Goals as goal

pub returns : goal.returns
returns c t inside =
    let args = c.args in
    let leaf = 256 + args.junction % 256 in
    let same : args.junction % 256 ≡ args.junction = omega arith in
    let e₀ = entering_starts t (args.junction % 256) args.key (omega arith) in
    let e₁ = entering_plays (leaf / 2) e₀ (omega arith) (omega arith) (c.play-first.ensures.won, c.play-first.ensures.tree) in
    let e₂ = entering_plays (leaf / 4) e₁ (omega arith) (omega arith) (c.play-second.ensures.won, c.play-second.ensures.tree) in
    let e₃ = entering_plays (leaf / 8) e₂ (omega arith) (omega arith) (c.play-third.ensures.won, c.play-third.ensures.tree) in
    let e₄ = entering_plays (leaf / 16) e₃ (omega arith) (omega arith) (c.play-fourth.ensures.won, c.play-fourth.ensures.tree) in
    let e₅ = entering_plays (leaf / 32) e₄ (omega arith) (omega arith) (c.play-fifth.ensures.won, c.play-fifth.ensures.tree) in
    let e₆ = entering_plays (leaf / 64) e₅ (omega arith) (omega arith) (c.play-sixth.ensures.won, c.play-sixth.ensures.tree) in
    let e₇ = entering_plays (leaf / 128) e₆ (omega arith) (omega arith) (c.play-seventh.ensures.won, c.play-seventh.ensures.tree) in
    let e₈ = entering_plays (leaf / 256) e₇ (omega arith) (omega arith) (c.play.ensures.won, c.play.ensures.tree) in
    rw same at (entering_ends t (args.junction % 256) args.key (omega arith) e₈ (omega arith))
