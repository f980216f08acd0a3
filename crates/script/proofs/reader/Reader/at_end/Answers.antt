-- The place is the length of the text just where nothing is left.
use Rattle.std.proofs.Common.{rules}
use Rattle.script.proofs.Ends.{ended_at}
use Rattle.script.proofs.reader.Reader.at_end.Goals as goal

pub returns : goal.returns
returns c = search (rules, ended_at)
