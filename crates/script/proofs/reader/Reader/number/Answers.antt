-- After the space, the word is read that the number stands in.
use Rattle.std.proofs.Common.{arith}
use Rattle.std.proofs.lemmas.Grind.{common_steps}
use Rattle.script.proofs.Places.{rest_moved}
use Rattle.script.proofs.reader.Reader.number.Goals as goal

pub returns : goal.returns
returns c =
    let after = rest_moved c.if-not-space.ensures.moved in
    grind (arith, common_steps)
