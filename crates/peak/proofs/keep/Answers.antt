-- `peak::keep` meets its contract: the two ways, by whether 64 values are in, are the definition's; either way the new value renews its own envelope and no other.
use mathlib.Core.Path.{refl, ap, ◌∙◌}
use Rattle.peak.specs.Columns.{highest_of}
use Rattle.peak.proofs.Laws.{keep_filling, keep_level, renews, highest_is}
use borrow.Author.Rules.{rules}
use Rattle.peak.proofs.keep.Goals as goal

pub returns-then-place-lt63 : goal.returns-then-place-lt63
returns-then-place-lt63 c =
    let asked = c.requires in
    record { same = keep_filling _ _ _ _ _ c.if-place-lt63.true refl; envelopes = renews _ _ _ _ _ _ _ asked.sizes_value c.envelope.ensures asked.head_bound (search rules) (search rules) }

pub returns : goal.returns
returns c =
    let asked = c.requires in
    let is_envelope = c.envelope.ensures in
    let full = c.if-place-lt63.false in
    let sizes = renews _ _ _ _ _ _ _ asked.sizes_value is_envelope asked.head_bound (search rules) (search rules) in
    record { same = keep_level _ _ _ _ _ _ full (c.highest.ensures ∙ ap highest_of sizes ∙ highest_is _ _) c.levelled.ensures; envelopes = sizes }
