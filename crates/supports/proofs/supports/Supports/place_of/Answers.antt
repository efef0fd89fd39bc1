use Rattle.std.proofs.Common.{arith}
use Rattle.supports.proofs.Indices.{within}
use Rattle.supports.proofs.supports.Supports.place_of.Goals as goal

pub overflow_mul-result-2 : goal.overflow_mul-result-2
overflow_mul-result-2 c = omega (arith, (within c.args.self.now c.len.result c.args.i c.args.a c.args.j c.len.ensures c.requires.first c.requires.second c.requires.option).before)

pub overflow_add-result-2 : goal.overflow_add-result-2
overflow_add-result-2 c =
    let w = within c.args.self.now c.len.result c.args.i c.args.a c.args.j c.len.ensures c.requires.first c.requires.second c.requires.option in
    omega (arith, w.before, w.last)

pub returns-clause-inside : goal.returns-clause-inside
returns-clause-inside c = (within c.args.self.now c.len.result c.args.i c.args.a c.args.j c.len.ensures c.requires.first c.requires.second c.requires.option).inside
