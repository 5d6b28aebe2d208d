-- `field::mark_at`: a line of fewer than two bytes has no mark.
use mathlib.Core.Path.{◌∙◌}
use Rattle.fields.proofs.LineFrom.{no_first_byte, no_second_byte, first_is_feed, second_is_feed, two_bytes_mark}
use Rattle.fields.proofs.field.mark_at.Goals as goal

pub returns-then-text-at : goal.returns-then-text-at
returns-then-text-at c = no_first_byte _ _ c.if-text-at.true

pub returns-then-text-second : goal.returns-then-text-second
returns-then-text-second c = no_second_byte _ _ c.if-text-at.false c.if-text-second.true

pub returns-then-text-at-eq-LINE_FEED : goal.returns-then-text-at-eq-LINE_FEED
returns-then-text-at-eq-LINE_FEED c = first_is_feed _ _ c.if-text-at.false c.if-text-at-eq-LINE_FEED.true

pub returns-then-text-second-eq-LINE_FEED : goal.returns-then-text-second-eq-LINE_FEED
returns-then-text-second-eq-LINE_FEED c = second_is_feed _ _ c.if-text-at.false c.if-text-second.false c.if-text-second-eq-LINE_FEED.true

pub returns : goal.returns
returns c =
    c.from_be_bytes.ensures ∙ two_bytes_mark _ _ c.if-text-at.false c.if-text-second.false c.if-text-at-eq-LINE_FEED.false c.if-text-second-eq-LINE_FEED.false
