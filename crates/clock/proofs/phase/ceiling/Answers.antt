-- `clock::phase::ceiling` meets its contract: it is the truncated number, or one more where that lies below x.
use Rattle.std.proofs.Common.{arith}
use Rattle.clock.specs.Floor.{whole_most, ceiling_up, ceiling_not}
use Rattle.clock.proofs.Ranged.{truncates, within48}
use Rattle.clock.proofs.phase.ceiling.Goals as goal

pub truncating_f32_to_u64-whole-requires : goal.truncating_f32_to_u64-whole-requires
truncating_f32_to_u64-whole-requires c = let t = truncates _ (within48 _ c.requires) in record { lower_bound = t.0; upper_bound = t.1 }

pub overflow_cast-whole : goal.overflow_cast-whole
overflow_cast-whole c = let k = whole_most _ c.requires in omega (arith, c.truncating_f32_to_u64-whole.ensures)

pub overflow_add-result : goal.overflow_add-result
overflow_add-result c = let k = whole_most _ c.requires in omega (arith, c.truncating_f32_to_u64-whole.ensures)

pub returns-then-near-x : goal.returns-then-near-x
returns-then-near-x c = ceiling_up _ _ _ c.requires c.truncating_f32_to_u64-whole.ensures c.nearest_u32_to_f32-near.ensures c.if-near-x.true

pub returns : goal.returns
returns c = ceiling_not _ _ _ c.requires c.truncating_f32_to_u64-whole.ensures c.nearest_u32_to_f32-near.ensures c.if-near-x.false
