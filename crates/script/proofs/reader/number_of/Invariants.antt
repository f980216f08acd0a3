-- The digits that are left go on from the number so far, which is short enough to fit.
use Rattle.std.proofs.Common.{◌≡◌, ◌^◌, ◌<◌, drop}
use Rattle.script.specs.Lines.{decimal_after, up_to, number_of}
use Rattle.script.proofs.reader.number_of.Given as goal

abbrev pub invariant-loop-byte : goal.invariant-loop-byte
invariant-loop-byte l = record {
  short : l.number < 10 ^ l.byte-index;
  so_far : number_of l.word ≡ up_to 65535 (decimal_after l.number (drop l.byte-index l.word));
}
