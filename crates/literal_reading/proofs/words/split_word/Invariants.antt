use Rattle.std.proofs.Common.{◌≡◌, ◌≤◌, ◌-◌, ◌++◌, length, take, drop}
use Rattle.literal_reading.specs.Reading.{word_of, rest_of_word}
use Rattle.literal_reading.proofs.words.split_word.Given as goal

abbrev pub invariant-loop-end : goal.invariant-loop-end
invariant-loop-end l = record {
  inside : l.end ≤ length l.bytes;
  word : take l.end l.bytes ++ word_of (drop l.end l.bytes) ≡ word_of l.bytes;
  rest : rest_of_word (drop l.end l.bytes) ≡ rest_of_word l.bytes;
}

abbrev pub decreases-loop-end : goal.decreases-loop-end
decreases-loop-end l = length l.bytes - l.end
