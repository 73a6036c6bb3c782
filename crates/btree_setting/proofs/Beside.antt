-- Steps of reading the children besides a way.
use Rattle.std.proofs.Common.{◌≡◌, ℕ, Bool, true, false, List, [], ◌∷◌, ◌++◌, Some, None, Result, Ok, Err, refl, sym, ◌∙◌, ap, subst, append_assoc, append-nil}
use Rattle.std.specs.Prelude.{if◌then◌else◌}
use Rattle.btree_family.specs.declared.key.Key.{Key}
use Rattle.btree_shapes.specs.declared.error.TreeError.{TreeError}
use Rattle.btree_shapes.specs.declared.error.TreeError.TheVariants.{NotATree, NodeMissing, BadKey, Refused, Memory}
use Rattle.btree_shapes.specs.declared.space.Call.{Call}
use Rattle.btree_shapes.specs.declared.space.Call.TheVariants.{Read}
use Rattle.btree_shapes.specs.Nodes.{Held}
use Rattle.btree_shapes.specs.Met.{ReadsFirst, ReadsUpTo}
use Rattle.btree_shapes.specs.MetLaws.{first_logged, first_more, up_to_end, up_to_first}
use Rattle.btree_shapes.specs.Spaces.{IsLogged}
use Rattle.btree_shapes.specs.Ways.{IsRefusal, stands_in, reads}
use Rattle.btree_setting.specs.declared.rung.Rung.{Rung}
use Rattle.btree_setting.specs.declared.rung.Seam.{Seam}
use Rattle.btree_setting.specs.declared.rung.Seam.TheVariants.{New, Old, Beside}
use Rattle.btree_putting.specs.Firsts.{first_held}
use Rattle.btree_setting.specs.Rungs.{with_first, put_first, child_asked, settled_by, settled, then_rungs, settle, asked, asked_by, behind_rungs}

-- ---- one object

twice_at : (objects : ℕ → Held) (fits : Bool) (key : Key) (above : List ℕ) (rung : Rung) (child : ℕ) → rung.seam ≡ Beside child → stands_in above child ≡ true → settled objects fits key above rung ≡ Err (NotATree child)
twice_at objects fits key above rung child e s =
    ap (settled_by objects fits key above rung) e ∙ ap (λ b. if b then Err (NotATree child) else put_first rung (first_held fits key child (objects child))) s

settled_once : (objects : ℕ → Held) (fits : Bool) (key : Key) (above : List ℕ) (rung : Rung) (child : ℕ) → rung.seam ≡ Beside child → stands_in above child ≡ false → settled objects fits key above rung ≡ put_first rung (first_held fits key child (objects child))
settled_once objects fits key above rung child e s =
    ap (settled_by objects fits key above rung) e ∙ ap (λ b. if b then Err (NotATree child) else put_first rung (first_held fits key child (objects child))) s

child_at : (objects : ℕ → Held) (fits : Bool) (key : Key) (above : List ℕ) (rung : Rung) (child first : ℕ) → rung.seam ≡ Beside child → stands_in above child ≡ false → first_held fits key child (objects child) ≡ Ok first → settled objects fits key above rung ≡ Ok (with_first rung first)
child_at objects fits key above rung child first e s f = settled_once objects fits key above rung child e s ∙ ap (put_first rung) f

refused_first : (rung : Rung) (held : Result ℕ TreeError) (e : TreeError) → IsRefusal e held → IsRefusal e (put_first rung held)
refused_first rung held (NotATree oid) h = ap (put_first rung) h
refused_first rung held (NodeMissing oid) h = ap (put_first rung) h
refused_first rung held BadKey h = ap (put_first rung) h
refused_first rung held (Refused refusal) h = tt
refused_first rung held Memory h = tt

unread_at : (objects : ℕ → Held) (fits : Bool) (key : Key) (above : List ℕ) (rung : Rung) (child : ℕ) (e : TreeError) → rung.seam ≡ Beside child → stands_in above child ≡ false → IsRefusal e (first_held fits key child (objects child)) → IsRefusal e (settled objects fits key above rung)
unread_at objects fits key above rung child e s t r =
    subst (λ x. IsRefusal e x) (sym (settled_once objects fits key above rung child s t)) (refused_first rung (first_held fits key child (objects child)) e r)

seam_asked : (seam : Seam) (child : ℕ) → child_asked seam ≡ Some child → seam ≡ Beside child
seam_asked New child e = cc
seam_asked (Old first) child e = cc
seam_asked (Beside other) child e = ap Beside (cc)

pub is_beside : (rung : Rung) (child : ℕ) → child_asked rung.seam ≡ Some child → rung.seam ≡ Beside child
is_beside rung child e = seam_asked rung.seam child e

known_by : (objects : ℕ → Held) (fits : Bool) (key : Key) (above : List ℕ) (rung : Rung) (seam : Seam) → child_asked seam ≡ None → settled_by objects fits key above rung seam ≡ Ok rung
known_by objects fits key above rung New e = refl
known_by objects fits key above rung (Old first) e = refl
known_by objects fits key above rung (Beside child) e = cc

pub settled_known : (objects : ℕ → Held) (fits : Bool) (key : Key) (above : List ℕ) (rung : Rung) → child_asked rung.seam ≡ None → settled objects fits key above rung ≡ Ok rung
settled_known objects fits key above rung e = known_by objects fits key above rung rung.seam e

none_asked : (seam : Seam) → child_asked seam ≡ None → asked_by seam ≡ []
none_asked New e = refl
none_asked (Old first) e = refl
none_asked (Beside child) e = cc

logged_at : (log log' : List Call) (rung : Rung) (child : ℕ) → rung.seam ≡ Beside child → log' ≡ log ++ Read child ∷ [] → log' ≡ log ++ reads (asked_by rung.seam)
logged_at log log' rung child e l = l ∙ ap (λ s. log ++ reads (asked_by s)) (sym e)

pub logged_none : (log : List Call) (rung : Rung) → child_asked rung.seam ≡ None → log ≡ log ++ reads (asked_by rung.seam)
logged_none log rung e = sym (append-nil log) ∙ ap (λ xs. log ++ reads xs) (sym (none_asked rung.seam e))

pub settled_twice : (objects : ℕ → Held) (fits : Bool) (key : Key) (above : List ℕ) (rung : Rung) (child : ℕ) → child_asked rung.seam ≡ Some child → stands_in above child ≡ true → settled objects fits key above rung ≡ Err (NotATree child)
settled_twice objects fits key above rung child e s = twice_at objects fits key above rung child (is_beside rung child e) s

pub settled_child : (objects : ℕ → Held) (fits : Bool) (key : Key) (above : List ℕ) (rung : Rung) (child first : ℕ) → child_asked rung.seam ≡ Some child → stands_in above child ≡ false → first_held fits key child (objects child) ≡ Ok first → settled objects fits key above rung ≡ Ok (with_first rung first)
settled_child objects fits key above rung child first e s f = child_at objects fits key above rung child first (is_beside rung child e) s f

pub settled_unread : (objects : ℕ → Held) (fits : Bool) (key : Key) (above : List ℕ) (rung : Rung) (child : ℕ) (e : TreeError) → child_asked rung.seam ≡ Some child → stands_in above child ≡ false → IsRefusal e (first_held fits key child (objects child)) → IsRefusal e (settled objects fits key above rung)
settled_unread objects fits key above rung child e s t r = unread_at objects fits key above rung child e (is_beside rung child s) t r

pub logged_child : (log log' : List Call) (rung : Rung) (child : ℕ) → child_asked rung.seam ≡ Some child → log' ≡ log ++ Read child ∷ [] → log' ≡ log ++ reads (asked_by rung.seam)
logged_child log log' rung child e l = logged_at log log' rung child (is_beside rung child e) l

-- ---- all objects

behind_none : (r : Result (List Rung) TreeError) → behind_rungs [] r ≡ r
behind_none (Ok rungs) = refl
behind_none (Err e) = refl

behind_one : (front : List Rung) (rung : Rung) (r : Result (List Rung) TreeError) → behind_rungs (front ++ rung ∷ []) r ≡ behind_rungs front (then_rungs (Ok rung) r)
behind_one front rung (Ok rungs) = ap Ok (append_assoc front (rung ∷ []) rungs)
behind_one front rung (Err e) = refl

-- what was found, and what the rest gives, are the whole
pub record SettledSo (objects : ℕ → Held) (fits : Bool) (key : Key) (whole : Result (List Rung) TreeError) (above : List ℕ) (known left : List Rung) : Type 0 where
  pub gives : behind_rungs known (settle objects fits key above left) ≡ whole

pub settle_start : (objects : ℕ → Held) (fits : Bool) (key : Key) (rungs known : List Rung) (above : List ℕ) → known ≡ [] → above ≡ [] → SettledSo objects fits key (settle objects fits key [] rungs) above known rungs
settle_start objects fits key rungs known above e f = record {
  gives = ap (λ k. behind_rungs k (settle objects fits key above rungs)) e ∙ behind_none (settle objects fits key above rungs) ∙ ap (λ a. settle objects fits key a rungs) f;
}

pub settle_step : (objects : ℕ → Held) (fits : Bool) (key : Key) (whole : Result (List Rung) TreeError) (above above' : List ℕ) (known known' left left' : List Rung) (rung rung' : Rung) → SettledSo objects fits key whole above known left → left ≡ rung ∷ left' → above' ≡ above ++ rung.oid ∷ [] → settled objects fits key above' rung ≡ Ok rung' → known' ≡ known ++ rung' ∷ [] → SettledSo objects fits key whole above' known' left'
settle_step objects fits key whole above above' known known' left left' rung rung' s l a o k = record {
  gives =
      ap (λ x. behind_rungs x (settle objects fits key above' left')) k
      ∙ behind_one known rung' (settle objects fits key above' left')
      ∙ ap (λ r. behind_rungs known (then_rungs r (settle objects fits key above' left'))) (sym o)
      ∙ ap (λ x. behind_rungs known (then_rungs (settled objects fits key x rung) (settle objects fits key x left'))) a
      ∙ ap (λ x. behind_rungs known (settle objects fits key above x)) (sym l)
      ∙ s.gives;
}

pub settle_end : (objects : ℕ → Held) (fits : Bool) (key : Key) (whole : Result (List Rung) TreeError) (above : List ℕ) (known left : List Rung) → SettledSo objects fits key whole above known left → left ≡ [] → whole ≡ Ok known
settle_end objects fits key whole above known left s e =
    sym s.gives ∙ ap (λ x. behind_rungs known (settle objects fits key above x)) e ∙ ap Ok (append-nil known)

refused_rungs : (known : List Rung) (r : Result Rung TreeError) (rest : Result (List Rung) TreeError) (e : TreeError) → IsRefusal e r → IsRefusal e (behind_rungs known (then_rungs r rest))
refused_rungs known r rest (NotATree oid) h = ap (λ x. behind_rungs known (then_rungs x rest)) h
refused_rungs known r rest (NodeMissing oid) h = ap (λ x. behind_rungs known (then_rungs x rest)) h
refused_rungs known r rest BadKey h = ap (λ x. behind_rungs known (then_rungs x rest)) h
refused_rungs known r rest (Refused refusal) h = tt
refused_rungs known r rest Memory h = tt

pub settle_refused : (objects : ℕ → Held) (fits : Bool) (key : Key) (whole : Result (List Rung) TreeError) (above above' : List ℕ) (known left left' : List Rung) (rung : Rung) (e : TreeError) → SettledSo objects fits key whole above known left → left ≡ rung ∷ left' → above' ≡ above ++ rung.oid ∷ [] → IsRefusal e (settled objects fits key above' rung) → IsRefusal e whole
settle_refused objects fits key whole above above' known left left' rung e s l a r =
    let same : behind_rungs known (then_rungs (settled objects fits key above' rung) (settle objects fits key above' left')) ≡ whole =
    ap (λ x. behind_rungs known (then_rungs (settled objects fits key x rung) (settle objects fits key x left'))) a
    ∙ ap (λ x. behind_rungs known (settle objects fits key above x)) (sym l)
    ∙ s.gives
    in subst (λ x. IsRefusal e x) same (refused_rungs known (settled objects fits key above' rung) (settle objects fits key above' left') e r)

-- ---- what was read

reads_append : (xs ys : List ℕ) → reads (xs ++ ys) ≡ reads xs ++ reads ys
reads_append [] ys = refl
reads_append (x ∷ xs) ys = ap (λ zs. Read x ∷ zs) (reads_append xs ys)

-- what was read, and what the rest asks for, are what all ask for
pub record ReadSo (start log : List Call) (whole left : List Rung) : Type 0 where
  pub gives : log ++ reads (asked left) ≡ start ++ reads (asked whole)

pub read_start : (log : List Call) (whole : List Rung) → ReadSo log log whole whole
read_start log whole = record { gives = refl }

pub read_step : (start log log' : List Call) (whole left left' : List Rung) (rung : Rung) → ReadSo start log whole left → left ≡ rung ∷ left' → log' ≡ log ++ reads (asked_by rung.seam) → ReadSo start log' whole left'
read_step start log log' whole left left' rung r l e = record {
  gives =
      ap (λ x. x ++ reads (asked left')) e
      ∙ append_assoc log (reads (asked_by rung.seam)) (reads (asked left'))
      ∙ ap (λ x. log ++ x) (sym (reads_append (asked_by rung.seam) (asked left')))
      ∙ ap (λ x. log ++ reads (asked x)) (sym l)
      ∙ r.gives;
}

pub read_end : (start log : List Call) (whole left : List Rung) → ReadSo start log whole left → left ≡ [] → log ≡ start ++ reads (asked whole)
read_end start log whole left r e = sym (append-nil log) ∙ ap (λ x. log ++ reads (asked x)) (sym e) ∙ r.gives

-- ---- what was read where it stopped

first_at : (log log' : List Call) (rung : Rung) (child : ℕ) (no_memory : Bool) → rung.seam ≡ Beside child → IsLogged child no_memory log log' → ReadsFirst (asked_by rung.seam) log log'
first_at log log' rung child no_memory e l = subst (λ s. ReadsFirst (asked_by s) log log') (sym e) (first_logged child [] log log' no_memory l)

pub first_child : (log log' : List Call) (rung : Rung) (child : ℕ) (no_memory : Bool) → child_asked rung.seam ≡ Some child → IsLogged child no_memory log log' → ReadsFirst (asked_by rung.seam) log log'
first_child log log' rung child no_memory e l = first_at log log' rung child no_memory (is_beside rung child e) l

pub first_child_read : (log log' : List Call) (rung : Rung) (child : ℕ) → child_asked rung.seam ≡ Some child → log' ≡ log ++ Read child ∷ [] → ReadsFirst (asked_by rung.seam) log log'
first_child_read log log' rung child e l = first_at log log' rung child false (is_beside rung child e) l

pub first_step : (start log log' : List Call) (whole left left' : List Rung) (rung : Rung) → ReadsUpTo (asked whole) (asked left) start log → left ≡ rung ∷ left' → log' ≡ log ++ reads (asked_by rung.seam) → ReadsUpTo (asked whole) (asked left') start log'
first_step start log log' whole left left' rung r l e = record {
  front = r.front ++ asked_by rung.seam;
  split = r.split ∙ ap (λ x. r.front ++ asked x) l ∙ sym (append_assoc r.front (asked_by rung.seam) (asked left'));
  grown = e ∙ ap (λ x. x ++ reads (asked_by rung.seam)) r.grown ∙ append_assoc start (reads r.front) (reads (asked_by rung.seam)) ∙ ap (λ x. start ++ x) (sym (reads_append r.front (asked_by rung.seam)));
}

pub first_end : (start log log' : List Call) (whole left : List Rung) → ReadsUpTo (asked whole) (asked left) start log → log' ≡ log → ReadsFirst (asked whole) start log'
first_end start log log' whole left r e = up_to_end (asked whole) (asked left) start log log' r e

pub first_refused : (start log log' : List Call) (whole left left' : List Rung) (rung : Rung) → ReadsUpTo (asked whole) (asked left) start log → left ≡ rung ∷ left' → ReadsFirst (asked_by rung.seam) log log' → ReadsFirst (asked whole) start log'
first_refused start log log' whole left left' rung r l f =
    up_to_first (asked whole) (asked left) start log log' r
    (subst (λ x. ReadsFirst (asked x) log log') (sym l) (first_more (asked_by rung.seam) (asked left') log log' f))
