-- `is_rearranged` meets its contract: profile 1 and no other, by its bits.
use Rattle.labels.specs.LabelLaws.{profile_one, profile_other}
use Rattle.labels.proofs.is_rearranged.Goals as goal

pub returns-then-profile-eq1 : goal.returns-then-profile-eq1
returns-then-profile-eq1 c = profile_one _ c.ranges.profile c.if-profile-eq1.true

pub returns-else-profile-eq1 : goal.returns-else-profile-eq1
returns-else-profile-eq1 c = profile_other c.args.profile c.if-profile-eq1.false
