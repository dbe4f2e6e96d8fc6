-- The customer's printed lines and corner cases, and what is kept of texts, proved from the definitions by one statement over their list.
-- Assumes nothing.
use mathlib.Core.List.{List, [], ◌∷◌}
use mathlib.Core.Path.{◌≡◌, refl}
use Prim.Native.Nat.{ℕ}
use Rattle.std.specs.Prelude.{Option, Some, None}
use Rattle.lines.specs.Names.{same}
use Rattle.lines.specs.Fields.{begun, fields, is_digit, all_digits, number_of, is_value, all_values}
use Rattle.lines.specs.RequestLines.{write_of, named, request_of, request_line}
use Rattle.lines.specs.MeasureLines.{measures_of, measures_line}
use Rattle.lines.specs.AnswerLines.{digits, decimal, spelled, name_of, columns, answer_line, format_line}
use Rattle.lines.specs.Held.{on_digit, kept_from, kept}
use Rattle.lines.specs.declared.requests.Request.{Request}
use Rattle.lines.specs.declared.measures.Measures.{Measures}

-- a line, and what it should say
pub data Example : Type 0 where
  asks : List ℕ → Option Request → Example
  measured : List ℕ → Option Measures → Example
  answers : Option Request → (code mode listed next first : ℕ) → List ℕ → Example
  formats : ℕ → List ℕ → Example
  keeps : List ℕ → List ℕ → Example

abbrev pub Says : Example → Type 0
Says (asks line r) = request_line line ≡ r
Says (measured line m) = measures_line line ≡ m
Says (answers r code mode listed next first line) = answer_line r (record { code = code; mode = mode; listed = listed; next = next; first = first }) ≡ line
Says (formats code line) = format_line code ≡ line
Says (keeps text k) = kept text ≡ k

abbrev pub AllSay : List Example → Type 0
AllSay [] = Unit {0}
AllSay (e ∷ es) = Says e × AllSay es

abbrev pub examples : List Example
examples =
    -- `start 0 0 0`
    asks (115 ∷ 116 ∷ 97 ∷ 114 ∷ 116 ∷ 32 ∷ 48 ∷ 32 ∷ 48 ∷ 32 ∷ 48 ∷ []) (Some Request.Start) ∷
    -- `write 1 1 7`
    asks (119 ∷ 114 ∷ 105 ∷ 116 ∷ 101 ∷ 32 ∷ 49 ∷ 32 ∷ 49 ∷ 32 ∷ 55 ∷ []) (Some (Request.Write 1 1 7)) ∷
    -- `fail 0 0 0`
    asks (102 ∷ 97 ∷ 105 ∷ 108 ∷ 32 ∷ 48 ∷ 32 ∷ 48 ∷ 32 ∷ 48 ∷ []) (Some (Request.Fail 0)) ∷
    -- `read 1 1 0`
    asks (114 ∷ 101 ∷ 97 ∷ 100 ∷ 32 ∷ 49 ∷ 32 ∷ 49 ∷ 32 ∷ 48 ∷ []) (Some (Request.Read 1 1)) ∷
    -- `rebuild 0 0 0`
    asks (114 ∷ 101 ∷ 98 ∷ 117 ∷ 105 ∷ 108 ∷ 100 ∷ 32 ∷ 48 ∷ 32 ∷ 48 ∷ 32 ∷ 48 ∷ []) (Some Request.Rebuild) ∷
    -- `resync 0 0 0`
    asks (114 ∷ 101 ∷ 115 ∷ 121 ∷ 110 ∷ 99 ∷ 32 ∷ 48 ∷ 32 ∷ 48 ∷ 32 ∷ 48 ∷ []) (Some Request.Resync) ∷
    -- `newlog 0 0 0`
    asks (110 ∷ 101 ∷ 119 ∷ 108 ∷ 111 ∷ 103 ∷ 32 ∷ 48 ∷ 32 ∷ 48 ∷ 32 ∷ 48 ∷ []) (Some Request.NewLog) ∷
    -- `full 0 0 0`
    asks (102 ∷ 117 ∷ 108 ∷ 108 ∷ 32 ∷ 48 ∷ 32 ∷ 48 ∷ 32 ∷ 48 ∷ []) (Some Request.FullResync) ∷
    -- `fail 6 0 0`
    asks (102 ∷ 97 ∷ 105 ∷ 108 ∷ 32 ∷ 54 ∷ 32 ∷ 48 ∷ 32 ∷ 48 ∷ []) (Some (Request.Fail 6)) ∷
    -- `write 007 1 255`
    asks (119 ∷ 114 ∷ 105 ∷ 116 ∷ 101 ∷ 32 ∷ 48 ∷ 48 ∷ 55 ∷ 32 ∷ 49 ∷ 32 ∷ 50 ∷ 53 ∷ 53 ∷ []) (Some (Request.Write 7 1 255)) ∷
    -- `fetch 1 1 0`
    asks (102 ∷ 101 ∷ 116 ∷ 99 ∷ 104 ∷ 32 ∷ 49 ∷ 32 ∷ 49 ∷ 32 ∷ 48 ∷ []) (Some (Request.Fetch 1 1)) ∷
    -- `read 4294967295 1 256`
    asks (114 ∷ 101 ∷ 97 ∷ 100 ∷ 32 ∷ 52 ∷ 50 ∷ 57 ∷ 52 ∷ 57 ∷ 54 ∷ 55 ∷ 50 ∷ 57 ∷ 53 ∷ 32 ∷ 49 ∷ 32 ∷ 50 ∷ 53 ∷ 54 ∷ []) (Some (Request.Read 4294967295 1)) ∷
    -- `stop 0 0 0`
    asks (115 ∷ 116 ∷ 111 ∷ 112 ∷ 32 ∷ 48 ∷ 32 ∷ 48 ∷ 32 ∷ 48 ∷ []) None ∷
    -- `starts 0 0 0`
    asks (115 ∷ 116 ∷ 97 ∷ 114 ∷ 116 ∷ 115 ∷ 32 ∷ 48 ∷ 32 ∷ 48 ∷ 32 ∷ 48 ∷ []) None ∷
    -- `start 0 0`
    asks (115 ∷ 116 ∷ 97 ∷ 114 ∷ 116 ∷ 32 ∷ 48 ∷ 32 ∷ 48 ∷ []) None ∷
    -- `start 0 0 0 0`
    asks (115 ∷ 116 ∷ 97 ∷ 114 ∷ 116 ∷ 32 ∷ 48 ∷ 32 ∷ 48 ∷ 32 ∷ 48 ∷ 32 ∷ 48 ∷ []) None ∷
    -- `start  0 0`
    asks (115 ∷ 116 ∷ 97 ∷ 114 ∷ 116 ∷ 32 ∷ 32 ∷ 48 ∷ 32 ∷ 48 ∷ []) None ∷
    -- 'start 0 0 0 '
    asks (115 ∷ 116 ∷ 97 ∷ 114 ∷ 116 ∷ 32 ∷ 48 ∷ 32 ∷ 48 ∷ 32 ∷ 48 ∷ 32 ∷ []) None ∷
    -- ''
    asks ([]) None ∷
    -- `read 4294967296 1 0`
    asks (114 ∷ 101 ∷ 97 ∷ 100 ∷ 32 ∷ 52 ∷ 50 ∷ 57 ∷ 52 ∷ 57 ∷ 54 ∷ 55 ∷ 50 ∷ 57 ∷ 54 ∷ 32 ∷ 49 ∷ 32 ∷ 48 ∷ []) None ∷
    -- `read -1 1 0`
    asks (114 ∷ 101 ∷ 97 ∷ 100 ∷ 32 ∷ 45 ∷ 49 ∷ 32 ∷ 49 ∷ 32 ∷ 48 ∷ []) None ∷
    -- 'read 0\t1 0 0'
    asks (114 ∷ 101 ∷ 97 ∷ 100 ∷ 32 ∷ 48 ∷ 9 ∷ 49 ∷ 32 ∷ 48 ∷ 32 ∷ 48 ∷ []) None ∷
    -- 'read 0 1 0\r'
    asks (114 ∷ 101 ∷ 97 ∷ 100 ∷ 32 ∷ 48 ∷ 32 ∷ 49 ∷ 32 ∷ 48 ∷ 13 ∷ []) None ∷
    -- `read 0 x 0`
    asks (114 ∷ 101 ∷ 97 ∷ 100 ∷ 32 ∷ 48 ∷ 32 ∷ 120 ∷ 32 ∷ 48 ∷ []) None ∷
    -- `write 0 1 256`
    asks (119 ∷ 114 ∷ 105 ∷ 116 ∷ 101 ∷ 32 ∷ 48 ∷ 32 ∷ 49 ∷ 32 ∷ 50 ∷ 53 ∷ 54 ∷ []) None ∷
    -- `3 2 1 4 2 4`
    measured (51 ∷ 32 ∷ 50 ∷ 32 ∷ 49 ∷ 32 ∷ 52 ∷ 32 ∷ 50 ∷ 32 ∷ 52 ∷ []) (Some (record { d = 3; s = 2; b = 1; l = 4; h = 2; e = 4 })) ∷
    -- `3 2 1 4 2`
    measured (51 ∷ 32 ∷ 50 ∷ 32 ∷ 49 ∷ 32 ∷ 52 ∷ 32 ∷ 50 ∷ []) None ∷
    -- `3 2 1 4 2 4 0`
    measured (51 ∷ 32 ∷ 50 ∷ 32 ∷ 49 ∷ 32 ∷ 52 ∷ 32 ∷ 50 ∷ 32 ∷ 52 ∷ 32 ∷ 48 ∷ []) None ∷
    -- '3 2 1 4 2 '
    measured (51 ∷ 32 ∷ 50 ∷ 32 ∷ 49 ∷ 32 ∷ 52 ∷ 32 ∷ 50 ∷ 32 ∷ []) None ∷
    -- `3 2 1 4 2 4294967296`
    measured (51 ∷ 32 ∷ 50 ∷ 32 ∷ 49 ∷ 32 ∷ 52 ∷ 32 ∷ 50 ∷ 32 ∷ 52 ∷ 50 ∷ 57 ∷ 52 ∷ 57 ∷ 54 ∷ 55 ∷ 50 ∷ 57 ∷ 54 ∷ []) None ∷
    -- `read 16 1 1 2 0`
    answers (Some (Request.Read 1 1)) 16 1 1 2 0 (114 ∷ 101 ∷ 97 ∷ 100 ∷ 32 ∷ 49 ∷ 54 ∷ 32 ∷ 49 ∷ 32 ∷ 49 ∷ 32 ∷ 50 ∷ 32 ∷ 48 ∷ 10 ∷ []) ∷
    -- `fetch 0 1 1 2 7`
    answers (Some (Request.Fetch 1 1)) 0 1 1 2 7 (102 ∷ 101 ∷ 116 ∷ 99 ∷ 104 ∷ 32 ∷ 48 ∷ 32 ∷ 49 ∷ 32 ∷ 49 ∷ 32 ∷ 50 ∷ 32 ∷ 55 ∷ 10 ∷ []) ∷
    -- `resync 0 0 0 0 0`
    answers (Some Request.Resync) 0 0 0 0 0 (114 ∷ 101 ∷ 115 ∷ 121 ∷ 110 ∷ 99 ∷ 32 ∷ 48 ∷ 32 ∷ 48 ∷ 32 ∷ 48 ∷ 32 ∷ 48 ∷ 32 ∷ 48 ∷ 10 ∷ []) ∷
    -- `fail 6 0 0 0 0`
    answers (Some (Request.Fail 6)) 6 0 0 0 0 (102 ∷ 97 ∷ 105 ∷ 108 ∷ 32 ∷ 54 ∷ 32 ∷ 48 ∷ 32 ∷ 48 ∷ 32 ∷ 48 ∷ 32 ∷ 48 ∷ 10 ∷ []) ∷
    -- `bad 15 2 100 650 0`
    answers None 15 2 100 650 0 (98 ∷ 97 ∷ 100 ∷ 32 ∷ 49 ∷ 53 ∷ 32 ∷ 50 ∷ 32 ∷ 49 ∷ 48 ∷ 48 ∷ 32 ∷ 54 ∷ 53 ∷ 48 ∷ 32 ∷ 48 ∷ 10 ∷ []) ∷
    -- `format 0 0 0 0 0`
    formats 0 (102 ∷ 111 ∷ 114 ∷ 109 ∷ 97 ∷ 116 ∷ 32 ∷ 48 ∷ 32 ∷ 48 ∷ 32 ∷ 48 ∷ 32 ∷ 48 ∷ 32 ∷ 48 ∷ 10 ∷ []) ∷
    -- `format 1 0 0 0 0`
    formats 1 (102 ∷ 111 ∷ 114 ∷ 109 ∷ 97 ∷ 116 ∷ 32 ∷ 49 ∷ 32 ∷ 48 ∷ 32 ∷ 48 ∷ 32 ∷ 48 ∷ 32 ∷ 48 ∷ 10 ∷ []) ∷
    -- `007 0 00 10`, of which `7 0 0 10` is kept
    keeps (48 ∷ 48 ∷ 55 ∷ 32 ∷ 48 ∷ 32 ∷ 48 ∷ 48 ∷ 32 ∷ 49 ∷ 48 ∷ []) (55 ∷ 32 ∷ 48 ∷ 32 ∷ 48 ∷ 32 ∷ 49 ∷ 48 ∷ []) ∷
    -- `0x 00`, of which `0x 0` is kept
    keeps (48 ∷ 120 ∷ 32 ∷ 48 ∷ 48 ∷ []) (48 ∷ 120 ∷ 32 ∷ 48 ∷ []) ∷
    -- `00start 1 2 3`, of which `0start 1 2 3` is kept
    keeps (48 ∷ 48 ∷ 115 ∷ 116 ∷ 97 ∷ 114 ∷ 116 ∷ 32 ∷ 49 ∷ 32 ∷ 50 ∷ 32 ∷ 51 ∷ []) (48 ∷ 115 ∷ 116 ∷ 97 ∷ 114 ∷ 116 ∷ 32 ∷ 49 ∷ 32 ∷ 50 ∷ 32 ∷ 51 ∷ []) ∷
    -- `100 020 0`, of which `100 20 0` is kept
    keeps (49 ∷ 48 ∷ 48 ∷ 32 ∷ 48 ∷ 50 ∷ 48 ∷ 32 ∷ 48 ∷ []) (49 ∷ 48 ∷ 48 ∷ 32 ∷ 50 ∷ 48 ∷ 32 ∷ 48 ∷ []) ∷
    -- ' 0', kept as it is
    keeps (32 ∷ 48 ∷ []) (32 ∷ 48 ∷ []) ∷
    -- '0  0 ', kept as it is
    keeps (48 ∷ 32 ∷ 32 ∷ 48 ∷ 32 ∷ []) (48 ∷ 32 ∷ 32 ∷ 48 ∷ 32 ∷ []) ∷
    []

pub all_say : AllSay examples
unfolding same begun fields is_digit all_digits number_of is_value all_values write_of named request_of request_line measures_of measures_line digits decimal spelled name_of columns answer_line format_line on_digit kept_from kept
all_say = (refl, (refl, (refl, (refl, (refl, (refl, (refl, (refl, (refl, (refl, (refl, (refl, (refl, (refl, (refl, (refl, (refl, (refl, (refl, (refl, (refl, (refl, (refl, (refl, (refl, (refl, (refl, (refl, (refl, (refl, (refl, (refl, (refl, (refl, (refl, (refl, (refl, (refl, (refl, (refl, (refl, (refl, (refl, tt)))))))))))))))))))))))))))))))))))))))))))
