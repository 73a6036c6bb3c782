-- Refusals are read as they were written.
use Rattle.std.proofs.Common.{◌≡◌, ℕ, ◌-◌, ◌^◌, ◌<◌, Bool, true, false, List, [], ◌∷◌, ◌++◌, Some, length, refl, ap, ◌∙◌, append_assoc, length-append, arith}
use Rattle.std.proofs.lemmas.List.{take_at}
use Rattle.zb_model.specs.declared.refusal.Refusal.{Refusal}
use Rattle.zb_model.specs.declared.refusal.Refusal.TheVariants as refusals
use Rattle.zb_model.specs.declared.refusal.Why.{Why}
use Rattle.zb_model.specs.declared.refusal.Why.TheVariants as why
use Rattle.zeo_values.specs.Values.{count_text, ended, id_text, name_text, truth_text, IsId}
use Rattle.zeo_messages.specs.Answers.{HoldsRefusal, refusal_text, why_fields, why_name}
use Rattle.zeo_values.specs.Leaves.{behind, behind_name, count_in, id_in, name_in, small}
use Rattle.zeo_reading.specs.Loose.{key_in, refusal_in, why_in}
use Rattle.zeo_values.specs.ValueLaws.{small_same}
use Rattle.zeo_values.specs.FormLaws.{count_alone, double_form, single_form, triple_form}

-- what stands behind the tuple of a refusal
abbrev pub tail : List ℕ
tail = 0x74 ∷ 0x2e ∷ []

key_again : (spelling : List ℕ) → key_in ((spelling ++ 0x74 ∷ []) ++ tail) ≡ spelling
key_again spelling =
    let all : (spelling ++ 0x74 ∷ []) ++ tail ≡ spelling ++ 0x74 ∷ tail = append_assoc spelling (0x74 ∷ []) tail in
    let size = length-append spelling (0x74 ∷ tail) in
    ap key_in all ∙ take_at spelling (0x74 ∷ tail) (length (spelling ++ 0x74 ∷ tail) - 3) (omega arith)

why_again : (reason : Why) → let text : List ℕ = ended (name_text (why_name reason) ∷ why_fields reason) (0x74 ∷ []) ++ tail in why_in (name_in text) (behind_name text) ≡ reason
unfolding name_in behind_name name_text
why_again why.NoRule = refl
why_again why.Gone = refl
why_again why.NoOld = refl
why_again why.Unreadable = refl
why_again why.NotEmbedded = refl
why_again why.Link = refl
why_again why.EmptySide = refl
why_again (why.Key spelling) = ap (λ (x : List ℕ). why.Key x) (key_again spelling)
why_again why.FirstKey = refl
why_again why.Overflow = refl

counting_form : (form : ℕ → Refusal) (n : ℕ) → IsId n → Some (form (count_in ((count_text n ++ 0x86 ∷ []) ++ tail))) ≡ Some (form n)
counting_form form n h = ap (λ (x : ℕ). Some (form x)) (count_alone n (0x86 ∷ []) tail h)

small_form : (form : ℕ → Refusal) (n : ℕ) → n < 2 ^ 32 → Some (form (small (count_in ((count_text n ++ 0x86 ∷ []) ++ tail)))) ≡ Some (form n)
small_form form n h = ap (λ (x : ℕ). Some (form (small x))) (count_alone n (0x86 ∷ []) tail (omega arith)) ∙ ap (λ (x : ℕ). Some (form x)) (small_same n h)

missing_form : (oid : ℕ) (packed : Bool) → IsId oid → Some (refusals.Missing (id_in ((id_text oid ++ (truth_text packed ++ 0x87 ∷ [])) ++ tail)) packed) ≡ Some (refusals.Missing oid packed)
missing_form oid packed h = single_form (λ x. Some (refusals.Missing x packed)) oid (truth_text packed ++ 0x87 ∷ []) tail h

conflict_form : (oid base current : ℕ) (reason : Why) → IsId oid → IsId base → IsId current
    → let ends : List ℕ = ended (name_text (why_name reason) ∷ why_fields reason) (0x74 ∷ []) in
    let rest : List ℕ = (id_text oid ++ (id_text base ++ (id_text current ++ ends))) ++ tail in
    Some (refusals.Conflict (id_in rest) (id_in (behind 10 rest)) (id_in (behind 20 rest)) (why_in (name_in (ends ++ tail)) (behind_name (ends ++ tail))))
    ≡ Some (refusals.Conflict oid base current reason)
conflict_form oid base current reason h k l =
    let ends : List ℕ = ended (name_text (why_name reason) ∷ why_fields reason) (0x74 ∷ []) in
    triple_form (λ x y z. Some (refusals.Conflict x y z (why_in (name_in (ends ++ tail)) (behind_name (ends ++ tail))))) oid base current ends tail h k l
    ∙ ap (λ (x : Why). Some (refusals.Conflict oid base current x)) (why_again reason)

pub refusal_again : (refusal : Refusal) → HoldsRefusal refusal → refusal_in (refusal_text refusal ++ tail) ≡ Some refusal
unfolding name_in behind_name name_text behind id_text
refusal_again refusals.TidsSpent h = refl
refusal_again refusals.StoreFault h = refl
refusal_again (refusals.Conflict oid base current reason) h = conflict_form oid base current reason h.0 h.1 h.2
refusal_again (refusals.ReadConflict oid base current) h = triple_form (λ x y z. Some (refusals.ReadConflict x y z)) oid base current (0x74 ∷ []) tail h.0 h.1 h.2
refusal_again (refusals.TooLong n) h = counting_form (λ x. refusals.TooLong x) n h
refusal_again (refusals.UndoUnknown tid) h = single_form (λ x. Some (refusals.UndoUnknown x)) tid (0x86 ∷ []) tail h
refusal_again (refusals.UndoPacked tid) h = single_form (λ x. Some (refusals.UndoPacked x)) tid (0x86 ∷ []) tail h
refusal_again (refusals.UndoConflict oid later) h = double_form (λ x y. Some (refusals.UndoConflict x y)) oid later (0x87 ∷ []) tail h.0 h.1
refusal_again (refusals.Overtaken oid tid) h = double_form (λ x y. Some (refusals.Overtaken x y)) oid tid (0x87 ∷ []) tail h.0 h.1
refusal_again (refusals.Unreadable oid tid) h = double_form (λ x y. Some (refusals.Unreadable x y)) oid tid (0x87 ∷ []) tail h.0 h.1
refusal_again (refusals.PackedAlready packed) h = single_form (λ x. Some (refusals.PackedAlready x)) packed (0x86 ∷ []) tail h
refusal_again (refusals.Missing oid true) h = missing_form oid true h
refusal_again (refusals.Missing oid false) h = missing_form oid false h
refusal_again refusals.NoTransaction h = refl
refusal_again refusals.InTransaction h = refl
refusal_again refusals.NotVoted h = refl
refusal_again refusals.Voted h = refl
refusal_again (refusals.Busy holder) h = small_form (λ x. refusals.Busy x) holder h
refusal_again (refusals.PackRunning session) h = small_form (λ x. refusals.PackRunning x) session h
refusal_again refusals.OidsSpent h = refl
refusal_again (refusals.JournalFull count) h = counting_form (λ x. refusals.JournalFull x) count h
refusal_again (refusals.TooManySessions count) h = small_form (λ x. refusals.TooManySessions x) count h
refusal_again refusals.NotOpen h = refl
refusal_again (refusals.NoSavepoint number) h = counting_form (λ x. refusals.NoSavepoint x) number h
refusal_again (refusals.FrameTooLong n) h = small_form (λ x. refusals.FrameTooLong x) n h
refusal_again refusals.BadMessage h = refl
refusal_again refusals.LinkFault h = refl
refusal_again refusals.Closed h = refl
refusal_again (refusals.Mixed stores) h = counting_form (λ x. refusals.Mixed x) stores h
refusal_again refusals.NoPack h = refl
refusal_again (refusals.NotATree oid) h = single_form (λ x. Some (refusals.NotATree x)) oid (0x86 ∷ []) tail h
refusal_again (refusals.NodeMissing oid) h = single_form (λ x. Some (refusals.NodeMissing x)) oid (0x86 ∷ []) tail h
refusal_again refusals.BadKey h = refl
refusal_again refusals.ReadFault h = refl
refusal_again (refusals.NothingToDelete oid current) h = double_form (λ x y. Some (refusals.NothingToDelete x y)) oid current (0x87 ∷ []) tail h.0 h.1
refusal_again (refusals.Connected session) h = small_form (λ x. refusals.Connected x) session h
refusal_again refusals.StepsSpent h = refl
refusal_again refusals.Memory h = refl
