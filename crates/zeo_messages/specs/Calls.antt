-- What a client sends, row by row. From: ZEO; which rows there are is own.
use Rattle.std.specs.Prelude.{ℕ, ◌<◌, ◌^◌, Bool, true, false, ◌&&◌, List, [], ◌∷◌, length, nat_lt, codes}
use Rattle.zeo_messages.specs.declared.call.Call.{Call}
use Rattle.zeo_messages.specs.declared.call.Call.TheVariants as calls
use Rattle.zeo_values.specs.Values.{AreIds, IsId, bytes_text, count_text, id_text, list_of, name_text, truth_text}

-- the method
abbrev pub profile_text : Bool → List ℕ
profile_text false = name_text (codes "1")
profile_text true = name_text (codes "2")

abbrev pub pack_method : Bool → List ℕ → List ℕ → List ℕ
pack_method true collecting keeping = collecting
pack_method false collecting keeping = keeping

abbrev pub method_of : Call → List ℕ
method_of (calls.Register again) = codes "register"
method_of (calls.LoadBefore oid front) = codes "loadBefore"
method_of (calls.NewOids count) = codes "new_oids"
method_of (calls.TpcBegin user description extension) = codes "tpc_begin"
method_of (calls.Storea oid base bytes) = codes "storea"
method_of (calls.DeleteObject oid base) = codes "deleteObject"
method_of (calls.CheckCurrentSerial oid serial) = codes "checkCurrentSerialInTransaction"
method_of calls.Vote = codes "vote"
method_of (calls.Undoa user description tids) = codes "undoa"
method_of calls.TpcFinish = codes "tpc_finish"
method_of calls.TpcAbort = codes "tpc_abort"
method_of (calls.History oid) = codes "history"
method_of calls.UndoInfo = codes "undoInfo"
method_of (calls.Pack tid collect) = pack_method collect (codes "pack") (codes "packNoGc")
method_of (calls.PackBegin tid collect) = pack_method collect (codes "packBegin") (codes "packBeginNoGc")
method_of calls.PackTurn = codes "packTurn"
method_of calls.Sync = codes "sync"
method_of calls.LastTransaction = codes "lastTransaction"
method_of (calls.GetInvalidations tid changes) = codes "getInvalidations"

-- the arguments, one behind the other
abbrev pub arguments_of : Call → List (List ℕ)
arguments_of (calls.Register again) = profile_text again ∷ truth_text false ∷ []
arguments_of (calls.LoadBefore oid front) = id_text oid ∷ id_text front ∷ []
arguments_of (calls.NewOids count) = count_text count ∷ []
arguments_of (calls.TpcBegin user description extension) = bytes_text user ∷ bytes_text description ∷ bytes_text extension ∷ []
arguments_of (calls.Storea oid base bytes) = id_text oid ∷ id_text base ∷ bytes_text bytes ∷ []
arguments_of (calls.DeleteObject oid base) = id_text oid ∷ id_text base ∷ []
arguments_of (calls.CheckCurrentSerial oid serial) = id_text oid ∷ id_text serial ∷ []
arguments_of calls.Vote = []
arguments_of (calls.Undoa user description tids) = bytes_text user ∷ bytes_text description ∷ list_of id_text tids ∷ []
arguments_of calls.TpcFinish = []
arguments_of calls.TpcAbort = []
arguments_of (calls.History oid) = id_text oid ∷ []
arguments_of calls.UndoInfo = []
arguments_of (calls.Pack tid collect) = id_text tid ∷ []
arguments_of (calls.PackBegin tid collect) = id_text tid ∷ []
arguments_of calls.PackTurn = []
arguments_of calls.Sync = []
arguments_of calls.LastTransaction = []
arguments_of (calls.GetInvalidations tid changes) = id_text tid ∷ count_text changes ∷ []

-- 1 for a call that isn't answered, else 0
abbrev pub flag_of : Call → ℕ
flag_of (calls.TpcBegin user description extension) = 1
flag_of (calls.Storea oid base bytes) = 1
flag_of (calls.DeleteObject oid base) = 1
flag_of (calls.CheckCurrentSerial oid serial) = 1
flag_of _ = 0

-- ---- what a call may say, beside what the types of its fields say

-- at most 65,535 bytes
abbrev pub is_short : List ℕ → Bool
is_short text = nat_lt (length text) 65536

abbrev pub is_filled : {T : Type 0} → List T → Bool
is_filled [] = false
is_filled (item ∷ items) = true

-- each number is less than the one before
abbrev pub falls_below : ℕ → List ℕ → Bool
falls_below bound [] = true
falls_below bound (n ∷ numbers) = nat_lt n bound && falls_below n numbers

-- at least one number, each less than the one before
abbrev pub is_falling : List ℕ → Bool
is_falling [] = false
is_falling (n ∷ numbers) = falls_below n numbers

abbrev pub fits_call : Call → Bool
fits_call (calls.NewOids count) = nat_lt 0 count && nat_lt count 101
fits_call (calls.TpcBegin user description extension) = is_short user && (is_short description && is_short extension)
fits_call (calls.Storea oid base bytes) = is_filled bytes && nat_lt (length bytes) (2 ^ 32)
fits_call (calls.Undoa user description tids) = is_short user && (is_short description && is_falling tids)
fits_call _ = true

-- ---- what the types of its fields say

abbrev pub HoldsCall : Call → Type 0
HoldsCall (calls.LoadBefore oid front) = IsId oid × IsId front
HoldsCall (calls.NewOids count) = count < 2 ^ 32
HoldsCall (calls.Storea oid base bytes) = IsId oid × IsId base
HoldsCall (calls.DeleteObject oid base) = IsId oid × IsId base
HoldsCall (calls.CheckCurrentSerial oid serial) = IsId oid × IsId serial
HoldsCall (calls.Undoa user description tids) = AreIds tids
HoldsCall (calls.History oid) = IsId oid
HoldsCall (calls.Pack tid collect) = IsId tid
HoldsCall (calls.PackBegin tid collect) = IsId tid
HoldsCall (calls.GetInvalidations tid changes) = IsId tid × IsId changes
HoldsCall _ = Unit {0}
