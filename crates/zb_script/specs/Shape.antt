-- Where a line can stand in a script. Own.
use Rattle.std.specs.Prelude.{◌↔◌, ℕ, List, [], ◌∷◌, ◌++◌, Bool, true, false, not, ◌&&◌, map, filter, IsTrue, if◌then◌else◌}
use Rattle.std.specs.List.{list_any}
use Rattle.std.specs.Str.{bytes_eq}
use Rattle.zb_script.specs.declared.line.Line.{Line}
use Rattle.zb_script.specs.declared.line.Line.TheVariants as lines
use Rattle.zb_script.specs.declared.line.Turn.{Turn}
use Rattle.zb_script.specs.declared.opened.Opened.{Opened}

abbrev pub is_open : Line → Bool
is_open (lines.Open remote) = true
is_open _ = false

-- the line that opens a session over a link
abbrev pub opens_link : Line → Bool
opens_link (lines.Open remote) = remote
opens_link _ = false

-- a line that a client with a link can't have: a delete, and a pack that doesn't collect
abbrev pub needs_no_link : Line → Bool
needs_no_link (lines.Delete oid base) = true
needs_no_link (lines.Pack tid collect) = not collect
needs_no_link (lines.PackBegin tid collect) = not collect
needs_no_link _ = false

-- the clients that have opened their session, in order, and those of them that have a link
abbrev pub openers : List Turn → List (List ℕ)
openers turns = map (λ t. t.client) (filter (λ t. is_open t.line) turns)

abbrev pub linked : List Turn → List (List ℕ)
linked turns = map (λ t. t.client) (filter (λ t. opens_link t.line) turns)

abbrev pub opened_by : List Turn → Opened
opened_by turns = record { clients = openers turns; linked = linked turns }

abbrev pub is_among : List ℕ → List (List ℕ) → Bool
is_among client names = list_any (bytes_eq client) names

-- a client's open can stand where it has none ahead of it, and each other line where it has, unless that one has a link which the line can't have
abbrev pub stands_behind : Opened → Turn → Bool
stands_behind opened t = if is_open t.line then not (is_among t.client opened.clients) else is_among t.client opened.clients && not (needs_no_link t.line && is_among t.client opened.linked)

abbrev pub can_stand : List Turn → Turn → Bool
can_stand before t = stands_behind (opened_by before) t

-- whether each of the turns can stand behind `before` and those ahead of it
abbrev pub all_stand : List Turn → List Turn → Bool
all_stand before [] = true
all_stand before (t ∷ turns) = can_stand before t && all_stand (before ++ t ∷ []) turns

-- the first line of a client is its open, and it has no other; behind it any line can stand anywhere that the client can have
abbrev pub IsInShape : List Turn → Type 0
IsInShape turns = IsTrue (all_stand [] turns)

abbrev pub is_turn_of : List ℕ → Turn → Bool
is_turn_of client t = bytes_eq client t.client

-- a client's lines, in order
abbrev pub lines_of : List ℕ → List Turn → List Line
lines_of client turns = map (λ t. t.line) (filter (is_turn_of client) turns)

-- the first is an open, and there is no other; behind one over a link there is no line that a client with a link can't have
abbrev pub opens_first : List Line → Bool
opens_first [] = true
opens_first (line ∷ others) = is_open line && (not (list_any is_open others) && not (opens_link line && list_any needs_no_link others))

-- the law that turns stand in their places exactly where this holds of each client's lines
abbrev pub ClientsOpenFirst : Type 0
ClientsOpenFirst = (turns : List Turn) → IsInShape turns ↔ ((client : List ℕ) → IsTrue (opens_first (lines_of client turns)))
