-- The first transaction of a database. Source: ZODB's `DB`, which stores an empty root mapping.
use Rattle.std.specs.Prelude.{ℕ, List, [], ◌∷◌, ◌++◌, false, codes}
use Rattle.zb_ids.specs.Tids.{tid_after}
use Rattle.zb_model.specs.declared.data.Content.TheVariants.{Held}
use Rattle.zb_model.specs.declared.data.Transaction.{Transaction}

-- Two pickles of protocol 3 (80 03): the class, a global (opcode c) of two lines, and its stop (.); then
-- the state `{"data": {}}`, an empty dict (}), a text (X) of four bytes, an empty dict (}), the setting of
-- the item (s), and the stop.
abbrev pub root_record : List ℕ
root_record =
    (128 ∷ 3 ∷ codes "cpersistent.mapping") ++ (10 ∷ codes "PersistentMapping") ++ (10 ∷ codes ".")
    ++ (128 ∷ 3 ∷ codes "}X") ++ (4 ∷ 0 ∷ 0 ∷ 0 ∷ codes "data}s.")

-- the transaction that makes the root object, by a clock whose stamp has this number
abbrev pub first_transaction : ℕ → Transaction
first_transaction number = record {
  tid = tid_after 0 number;
  packed = false;
  user = [];
  description = codes "initial database creation";
  extension = [];
  changes = record { oid = 0; content = Held root_record } ∷ [];
}
