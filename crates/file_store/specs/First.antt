-- The file of a new database. Source: the FileStorage format notes; ZODB's `DB`, which stores an empty root mapping.
use Rattle.std.specs.Prelude.{ℕ, List, [], ◌++◌}
use Rattle.zb_model.specs.declared.data.Transaction.{Transaction}
use Rattle.fs_records.specs.Blocks.{magic, block_text}
use Rattle.fs_records.specs.Writing.{block_of}
use Rattle.pack_copy.specs.Renewing.{anew}

-- a file with one transaction alone
abbrev pub file_with : Transaction → List ℕ
file_with t = magic ++ block_text 4 (block_of 32 [] (anew t))
