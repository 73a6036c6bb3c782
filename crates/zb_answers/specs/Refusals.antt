-- Refusals as answers show them. Own.
use Rattle.std.specs.Prelude.{ℕ, List, ◌∷◌, ◌++◌, Bool, true, false, codes, decimal}
use Rattle.zb_ids.specs.Hex.{hex_number}
use Rattle.zb_model.specs.declared.refusal.Refusal.{Refusal}
use Rattle.zb_model.specs.declared.refusal.Refusal.TheVariants as refusal
use Rattle.zb_model.specs.declared.refusal.Why.{Why}
use Rattle.zb_model.specs.declared.refusal.Why.TheVariants as why
use Rattle.zb_answers.specs.Objects.{key_text}

abbrev pub truth_text : Bool → List ℕ
truth_text true = codes "true"
truth_text false = codes "false"

-- a reason's name; behind that of a key the key's literal
abbrev pub why_text : Why → List ℕ
why_text why.NoRule = codes "NoRule"
why_text why.Gone = codes "Gone"
why_text why.NoOld = codes "NoOld"
why_text why.Unreadable = codes "Unreadable"
why_text why.NotEmbedded = codes "NotEmbedded"
why_text why.Link = codes "Link"
why_text why.EmptySide = codes "EmptySide"
why_text (why.Key spelling) = codes "Key " ++ key_text spelling
why_text why.FirstKey = codes "FirstKey"
why_text why.Overflow = codes "Overflow"

-- one number, two, and three, in sixteen digits each, with a blank between them
abbrev pub two_numbers : ℕ → ℕ → List ℕ
two_numbers a b = hex_number a ++ 32 ∷ hex_number b

abbrev pub three_numbers : ℕ → ℕ → ℕ → List ℕ
three_numbers a b c = hex_number a ++ 32 ∷ two_numbers b c

-- a refusal's name, and behind it its fields
abbrev pub refusal_text : Refusal → List ℕ
refusal_text refusal.TidsSpent = codes "TidsSpent"
refusal_text refusal.StoreFault = codes "StoreFault"
refusal_text (refusal.Conflict oid base current reason) = codes "Conflict " ++ (three_numbers oid base current ++ 32 ∷ why_text reason)
refusal_text (refusal.ReadConflict oid base current) = codes "ReadConflict " ++ three_numbers oid base current
refusal_text (refusal.TooLong length) = codes "TooLong " ++ decimal length
refusal_text (refusal.UndoUnknown tid) = codes "UndoUnknown " ++ hex_number tid
refusal_text (refusal.UndoPacked tid) = codes "UndoPacked " ++ hex_number tid
refusal_text (refusal.UndoConflict oid later) = codes "UndoConflict " ++ two_numbers oid later
refusal_text (refusal.Overtaken oid tid) = codes "Overtaken " ++ two_numbers oid tid
refusal_text (refusal.Unreadable oid tid) = codes "Unreadable " ++ two_numbers oid tid
refusal_text (refusal.PackedAlready packed) = codes "PackedAlready " ++ hex_number packed
refusal_text (refusal.Missing oid packed) = codes "Missing " ++ (hex_number oid ++ 32 ∷ truth_text packed)
refusal_text refusal.NoTransaction = codes "NoTransaction"
refusal_text refusal.InTransaction = codes "InTransaction"
refusal_text refusal.NotVoted = codes "NotVoted"
refusal_text refusal.Voted = codes "Voted"
refusal_text (refusal.Busy holder) = codes "Busy " ++ decimal holder
refusal_text (refusal.PackRunning session) = codes "PackRunning " ++ decimal session
refusal_text refusal.OidsSpent = codes "OidsSpent"
refusal_text (refusal.JournalFull count) = codes "JournalFull " ++ decimal count
refusal_text (refusal.TooManySessions count) = codes "TooManySessions " ++ decimal count
refusal_text refusal.NotOpen = codes "NotOpen"
refusal_text (refusal.NoSavepoint number) = codes "NoSavepoint " ++ decimal number
refusal_text (refusal.FrameTooLong length) = codes "FrameTooLong " ++ decimal length
refusal_text refusal.BadMessage = codes "BadMessage"
refusal_text refusal.LinkFault = codes "LinkFault"
refusal_text refusal.Closed = codes "Closed"
refusal_text (refusal.Mixed stores) = codes "Mixed " ++ decimal stores
refusal_text refusal.NoPack = codes "NoPack"
refusal_text (refusal.NotATree oid) = codes "NotATree " ++ hex_number oid
refusal_text (refusal.NodeMissing oid) = codes "NodeMissing " ++ hex_number oid
refusal_text refusal.BadKey = codes "BadKey"
refusal_text refusal.ReadFault = codes "ReadFault"
refusal_text (refusal.NothingToDelete oid current) = codes "NothingToDelete " ++ two_numbers oid current
refusal_text (refusal.Connected session) = codes "Connected " ++ decimal session
refusal_text refusal.StepsSpent = codes "StepsSpent"
refusal_text refusal.Memory = codes "Memory"
