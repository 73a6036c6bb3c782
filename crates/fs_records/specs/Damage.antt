-- A file is damaged at one place at most, by one rule.
use Rattle.std.proofs.Common.{◌≡◌, ℕ, ◌+◌, ◌-◌, ◌^◌, ◌<◌, ◌≤◌, List, [], ◌∷◌, ◌++◌, length, drop, Result, Err, refl, sym, ap, subst, ◌∙◌, append_assoc, arith}
use Rattle.std.proofs.lemmas.List.{length-append, length-drop}
use Rattle.fs_records.specs.declared.field.Field.{Field}
use Rattle.fs_records.specs.declared.verdict.Verdict.{Verdict}
use Rattle.fs_records.specs.declared.verdict.Verdict.TheVariants.{Fault}
use Rattle.fs_records.specs.Blocks.{Written, Known, AreWritten, with_record, with_records, record_text, records_text, is_known, Reached}
use Rattle.fs_records.specs.Rules.{record_at}
use Rattle.fs_records.specs.File.{IsFault, head, data_record, IsDamaged, data_from, data_to}
use Rattle.fs_records.specs.Headers.{header_of}
use Rattle.zb_base.specs.Bytes.{AreBytes, AreBytes-drop}
use Rattle.fs_records.specs.HeaderLaws.{header_small}
use Rattle.fs_records.specs.BlockLaws.{judged}
use Rattle.fs_records.specs.RecordLaws.{record_again}
use Rattle.fs_records.specs.Unique.{front_same, one_record, fault_stops, reached_same}

abbrev fault : Field → Result (ℕ × ℕ) Field
fault f = Err f

same_error : (f g : Field) → fault f ≡ fault g → f ≡ g
same_error f g e = cc

abbrev bad : Field → Verdict
bad f = Fault f

same_fault : (f g : Field) → bad f ≡ bad g → f ≡ g
same_fault f g e = cc

-- where a record stands, no rule fails
no_record : (known : List Known) (place tid at end : ℕ) (field : Field) (r : Written) (rs : List Written) (x : List ℕ) → place < 2 ^ 64 → tid < 2 ^ 64 → AreWritten known place tid at (r ∷ rs) → at + length (record_text place tid r) ≤ end
    → record_at (is_known known) place tid (end - at) (records_text place tid (r ∷ rs) ++ x) ≡ Err field → ⊥
no_record known place tid at end field r rs x p t h within fails =
    let a = record_again known (is_known known) place tid (end - at) r (records_text place tid rs ++ x) (λ o q. refl) h.0 t p (omega (arith, within)) in
    let same = ap (record_at (is_known known) place tid (end - at)) (append_assoc (record_text place tid r) (records_text place tid rs) x) ∙ a.0 in
    absurd (cc (same, fails))

-- records behind which a rule fails are the same records, and it is the same rule
one_fault : (known : List Known) (place tid q at bt end : ℕ) (f g : Field) (rs ss : List Written) (x y : List ℕ) → place < 2 ^ 64 → tid < 2 ^ 64 → AreWritten known place tid q rs → AreWritten known place tid q ss
    → records_text place tid rs ++ x ≡ records_text place tid ss ++ y → at ≡ q + length (records_text place tid rs) → bt ≡ q + length (records_text place tid ss) → at < end → bt < end
    → record_at (is_known (with_records known place tid q rs)) place tid (end - at) x ≡ Err f → record_at (is_known (with_records known place tid q ss)) place tid (end - bt) y ≡ Err g → (at ≡ bt) × (f ≡ g)
one_fault known place tid q at bt end f g [] [] x y p t hr hs e a b la lb fx fy =
    let same : at ≡ bt = omega arith in
    (same, same_error f g (sym fx ∙ ap (λ (n : ℕ). record_at (is_known known) place tid (end - n) x) same ∙ ap (record_at (is_known known) place tid (end - bt)) e ∙ fy))
one_fault known place tid q at bt end f g [] (s ∷ ss) x y p t hr hs e a b la lb fx fy =
    absurd (no_record known place tid at end f s ss y p t (subst (λ (n : ℕ). AreWritten known place tid n (s ∷ ss)) (omega arith) hs) (omega (arith, length-append (record_text place tid s) (records_text place tid ss))) (ap (record_at (is_known known) place tid (end - at)) (sym e) ∙ fx))
one_fault known place tid q at bt end f g (r ∷ rs) [] x y p t hr hs e a b la lb fx fy =
    absurd (no_record known place tid bt end g r rs x p t (subst (λ (n : ℕ). AreWritten known place tid n (r ∷ rs)) (omega arith) hr) (omega (arith, length-append (record_text place tid r) (records_text place tid rs))) (ap (record_at (is_known known) place tid (end - bt)) e ∙ fy))
one_fault known place tid q at bt end f g (r ∷ rs) (s ∷ ss) x y p t hr hs e a b la lb fx fy =
    let whole : record_text place tid r ++ (records_text place tid rs ++ x) ≡ record_text place tid s ++ (records_text place tid ss ++ y) = sym (append_assoc (record_text place tid r) (records_text place tid rs) x) ∙ e ∙ append_assoc (record_text place tid s) (records_text place tid ss) y in
    let one : s ≡ r = sym (one_record known place tid r s _ _ p t hr.0 hs.0 whole) in
    let len = ap (λ (w : Written). length (record_text place tid w)) one in
    let behind = front_same (record_text place tid r) (record_text place tid s) _ _ (sym len) whole in
    let others = subst (λ (w : Written). AreWritten (with_record known tid q w) place tid (q + length (record_text place tid w)) ss) one hs.1 in
    let fy_too = subst (λ (w : Written). record_at (is_known (with_records (with_record known tid q w) place tid (q + length (record_text place tid w)) ss)) place tid (end - bt) y ≡ Err g) one fy in
    one_fault (with_record known tid q r) place tid (q + length (record_text place tid r)) at bt end f g rs ss x y p t hr.1 others behind.1
    (omega (arith, a, length-append (record_text place tid r) (records_text place tid rs)))
    (omega (arith, b, len, length-append (record_text place tid s) (records_text place tid ss)))
    la lb fx fy_too

faults_same : (bytes : List ℕ) (s : Reached) (a b : ℕ) (f g : Field) → AreBytes bytes → length bytes < 2 ^ 64 → IsFault bytes s a f → IsFault bytes s b g → (a ≡ b) × (f ≡ g)
faults_same bytes s a b f g fits short (head va pa) (head vb pb) = (pa ∙ sym pb, same_fault f g (sym va ∙ vb))
faults_same bytes s a b f g fits short (head va pa) (data_record vb rb) = absurd (cc (va, vb))
faults_same bytes s a b f g fits short (data_record va ra) (head vb pb) = absurd (cc (va, vb))
faults_same bytes s a b f g fits short (data_record va ra) (data_record vb rb) =
    let rest = drop s.end bytes in
    let j = judged s.newest rest va in
    let small = header_small rest (AreBytes-drop s.end bytes fits) in
    let tid_small = small.tid in
    one_fault s.known s.end (header_of rest).tid (data_from bytes s.end) a b (data_to bytes s.end) f g ra.records rb.records (drop a bytes) (drop b bytes) (omega (arith, j.some, length-drop s.end bytes)) (omega (arith, tid_small)) ra.stand.written rb.stand.written
    (sym ra.stand.parts ∙ rb.stand.parts) ra.stand.next rb.stand.next ra.before rb.before ra.fault rb.fault

-- damaged at one place, by one rule
pub one_damage : (bytes : List ℕ) (a b : ℕ) (f g : Field) → AreBytes bytes → length bytes < 2 ^ 64 → IsDamaged bytes a f → IsDamaged bytes b g → (a ≡ b) × (f ≡ g)
one_damage bytes a b f g fits short da db =
    let same = reached_same bytes da.reached db.reached da.begins db.begins (fault_stops bytes da.reached a f da.fault) (fault_stops bytes db.reached b g db.fault) in
    faults_same bytes db.reached a b f g fits short (subst (λ (r : Reached). IsFault bytes r a f) same da.fault) db.fault
