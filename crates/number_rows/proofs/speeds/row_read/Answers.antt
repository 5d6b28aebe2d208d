-- `speeds::row_read`: where a word ends behind the speeds of the short reading, what is left of the row is its end.
use mathlib.Core.Path.{◌∙◌}
use Rattle.fields.proofs.LineFrom.{line_feed_ends, word_ends, space_ends}
use Rattle.number_rows.proofs.ShortSpeeds.{row_behind}
use Rattle.number_rows.proofs.speeds.row_read.Goals as goal

-- a space follows the speeds
pub returns-then-text-end-eq-SPACE : goal.returns-then-text-end-eq-SPACE
returns-then-text-end-eq-SPACE c =
    c.row_end.ensures ∙ row_behind _ c.in-Some.ensures (space_ends _ _ c.in-Some.ensures.inside c.if-text-end-eq-SPACE.true)

-- the line ends behind them
pub returns-then-text-end-eq-LINE_FEED : goal.returns-then-text-end-eq-LINE_FEED
returns-then-text-end-eq-LINE_FEED c =
    c.row_end-then-text-end-eq-LINE_FEED.ensures ∙ row_behind _ c.in-Some.ensures (word_ends _ _ (line_feed_ends _ _ c.in-Some.ensures.inside c.if-text-end-eq-LINE_FEED.true))
