-- The marked examples K1 to K13 and the printed session of the bench program, with a plain read and with a fetch, proved from the definitions by
-- computation: one statement ranges over the list of the examples, and one over the lists of the session's lines. Then a session in both layouts and
-- two in the rotating one, with one parity one in both and one in the rotating one, by shelf and by book; and the session's shelf as bytes: what
-- format leaves, the layout of array, log and list, and the numbers 1 to 3.
-- Assumes nothing.
use mathlib.Core.Bool.{Bool, false, ◌||◌}
use mathlib.Core.List.{List, [], ◌∷◌}
use mathlib.Core.Path.{◌≡◌, refl}
use Prim.Native.Nat.{ℕ, ◌/◌, ◌%◌}
use lib.Dec.{eqb, ltb}
use lib.ListN.{length, get_or, replicate}
use Rattle.field.specs.Field.{double, pow2, times_low, times, raised, inverse}
use Rattle.stripe.specs.Blocks.{from, gen, block, byte_of, blocks_of}
use Rattle.stripe.specs.Parity.{pick, sum, one, weight, weight_in, parity_p, parity_q, parity_of, without, rest_p, rest_q, from_p, from_q, from_both, solved, data_solved, recovered}
use Rattle.stripe.specs.Parity as parity
use Rattle.stripe.specs.Places.{member_after, after_p, rotating, fixed, member_of, place}
use Rattle.stripe.specs.Calls.{changed, each_column, bad_measures, bad_length, bad_member, too_many, accepted, make_code, make_buffer, members_code, recover_code, recover_buffer}
use Rattle.shelf.specs.Counting.{choose, bit, count, total, any, first, lesser, set_at}
use Rattle.shelf.specs.Members.{log_member, parity_role, member_at, address_of, blank, block_parity, other_missing, worked_back, stripe_of, index_of}
use Rattle.shelf.specs.State.{State, is_some, listed, marks_in, fresh_state}
use Rattle.shelf.specs.Status.{Call, start, fail, put_back, write, read, fetch, resync, rebuild, new_log, full_resync, row, code_of}
use Rattle.shelf.specs.Calls.{settled, made, remade, reconstructs, append_one, append, logged, write_stripe, written, write_to, block_at, resynced, rebuilt, work, code, after}
use Rattle.shelf.specs.Words.{words, bytes_of}
use Rattle.shelf.specs.HashList.{none_word, seek, lookup, entries_from, entries, put_front, put_all, encode, rises, has, has_all, is_record, good_words, good_entry, all_good, same, valid, said}
use Rattle.shelf.specs.Lent.{lent, flag_at, record_at, state_of, bad_record, bad_lengths, tries_list, input_rows, number_of, flags_from, record_of, role_of, array_of, log_of, word_of, entries_of, list_of, buffer_of, read_buffer, fetch_buffer, format_code, formatted}
use Rattle.shelf.specs.Lent as rows
use Rattle.shelf.specs.Book.{Book, fresh_book, closed, marked, used_then, mark_stripe, mark_to, book_work, book_code, book_after}
use Rattle.shelf.specs.declared.record.Geometry.{Geometry}
use Rattle.shelf.specs.declared.record.Shelf.{Shelf}

-- what is computed, and what it must be
pub record Example : Type 0 where
  pub got : List ℕ
  pub want : List ℕ

abbrev pub ex : List ℕ → List ℕ → Example
ex g w = record { got = g; want = w }

abbrev pub Holds : List Example → Type 0
Holds [] = Unit {0}
Holds (e ∷ es) = (e.got ≡ e.want) × Holds es

-- a shelf of d data disks and two stripes: blocks of one byte, a log of four records, a list of two slots and four places
abbrev pub small : ℕ → Geometry
small d = record { d = d; s = 2; b = 1; l = 4; h = 2; e = 4; layout = 0; parities = 2 }

-- what calls leave, one after another
unfoldable pub after_all : Geometry → List Call → State → State
after_all g [] s = s
after_all g (c ∷ cs) s = after_all g cs (after g c s)

-- the bytes of failed members changed at will: a failed disk holds 99 in each block, a failed log 77
abbrev pub gone : Geometry → State → State
gone g s =
    record {
      disk = λ x i. choose (s.failed (member_at g x i)) (99 ∷ []) (s.disk x i);
      parity = λ x p. choose (s.failed (member_at g x (parity_role g p))) (99 ∷ []) (s.parity x p);
      log =
          record {
            value = λ r. choose (s.failed (log_member g)) (77 ∷ []) (s.log.value r);
            next = s.log.next;
            ori = s.log.ori;
            cur = s.log.cur;
          };
      mode = s.mode;
      failed = s.failed;
    }

-- K8 and K9 begin with K4's stripe, and block 1 is logged as 7
abbrev pub k4_logged : State
k4_logged = after_all (small 3) (write 0 3 (1 ∷ 2 ∷ 3 ∷ []) ∷ start ∷ write 1 1 (7 ∷ []) ∷ []) (fresh_state (small 3))

abbrev pub k8 : State
k8 = gone (small 3) (after_all (small 3) (fail 0 ∷ fail 1 ∷ []) k4_logged)

abbrev pub k9 : State
k9 = gone (small 3) (after_all (small 3) (fail 5 ∷ fail 0 ∷ []) k4_logged)

-- K12 and K13: n blocks from address 0 on written to an unlisted stripe of d data disks: whether it is reconstruction-write, the records used and the
-- blocks listed
abbrev pub logged_by : ℕ → ℕ → List ℕ → List ℕ
logged_by d n v =
    let s = after_all (small d) (start ∷ write 0 n v ∷ []) (fresh_state (small d)) in
    bit (reconstructs d (written (small d) 0 n 0) (λ _. false)) ∷ s.log.next ∷ marks_in (small d) (listed s.log) ∷ []

abbrev pub examples : List Example
examples =
    -- K1 to K3: 2 times 128, 2 to the 15th, 2 times 142
    ex (times 2 128 ∷ []) (29 ∷ []) ∷
    ex (pow2 15 ∷ []) (38 ∷ []) ∷
    ex (times 2 142 ∷ []) (1 ∷ []) ∷
    -- K4 to K7: stripes of one-byte blocks, data, P and Q; 77 and 88 are bytes of no meaning
    ex (make_buffer 3 2 1 (1 ∷ 2 ∷ 3 ∷ 77 ∷ 88 ∷ [])) (1 ∷ 2 ∷ 3 ∷ 0 ∷ 9 ∷ []) ∷
    ex (recover_buffer 3 2 1 0 1 (77 ∷ 88 ∷ 3 ∷ 0 ∷ 9 ∷ [])) (1 ∷ 2 ∷ 3 ∷ 0 ∷ 9 ∷ []) ∷
    ex (make_buffer 2 2 1 (128 ∷ 128 ∷ 77 ∷ 88 ∷ [])) (128 ∷ 128 ∷ 0 ∷ 157 ∷ []) ∷
    ex (recover_buffer 2 2 1 0 2 (77 ∷ 128 ∷ 88 ∷ 157 ∷ [])) (128 ∷ 128 ∷ 0 ∷ 157 ∷ []) ∷
    -- K8: the number of a fetch of blocks 0 and 1, and what it gives
    ex (code (small 3) (fetch 0 2 2) k8 ∷ fetch_buffer (small 3) k8 0 2) (0 ∷ 1 ∷ 7 ∷ []) ∷
    -- K9: the numbers of fetches of block 0 and of block 2, and what the latter gives
    ex (code (small 3) (fetch 0 1 1) k9 ∷ code (small 3) (fetch 2 1 1) k9 ∷ fetch_buffer (small 3) k9 2 1) (14 ∷ 0 ∷ 3 ∷ []) ∷
    -- plain reads there: of blocks 0 and 1 in K8's state; of block 0, of blocks 1 and 2 and what they give in K9's
    ex (code (small 3) (read 0 2 2) k8 ∷ code (small 3) (read 0 1 1) k9 ∷ code (small 3) (read 1 2 2) k9 ∷ read_buffer (small 3) k9 1 2) (16 ∷ 16 ∷ 0 ∷ 7 ∷ 3 ∷ []) ∷
    -- put-backs there: in K8's state of disks 0 and 1, of disk 2, of Q, of the log and of the number above it; of disk 0 and of the failed log in K9's;
    -- and what the first leaves: one member failed, disk 1, and the mode
    ex
    (code (small 3) (put_back 0) k8 ∷ code (small 3) (put_back 1) k8 ∷ code (small 3) (put_back 2) k8 ∷ code (small 3) (put_back 4) k8 ∷ code (small 3) (put_back 5) k8
    ∷ code (small 3) (put_back 6) k8 ∷ code (small 3) (put_back 0) k9 ∷ code (small 3) (put_back 5) k9 ∷ [])
    (0 ∷ 0 ∷ 12 ∷ 12 ∷ 6 ∷ 6 ∷ 0 ∷ 6 ∷ []) ∷
    (let s = after (small 3) (put_back 0) k8 in ex (count 6 s.failed ∷ bit (s.failed 1) ∷ s.mode ∷ []) (1 ∷ 1 ∷ 1 ∷ [])) ∷
    -- K10: the stripe and data index of address 4, the stripe and data index where a write to it stores, and the address there
    ex (stripe_of (small 3) 4 ∷ index_of (small 3) 4 ∷ first 2 (λ x. any 3 (written (small 3) 4 1 x)) ∷ first 3 (written (small 3) 4 1 1) ∷ address_of (small 3) 1 1 ∷ [])
    (1 ∷ 1 ∷ 1 ∷ 1 ∷ 4 ∷ []) ∷
    -- K11: reads of addresses 5 and 6, fetches, and writes
    ex
    (code (small 3) (read 5 1 1) (fresh_state (small 3)) ∷ code (small 3) (read 6 1 1) (fresh_state (small 3))
    ∷ code (small 3) (fetch 5 1 1) (fresh_state (small 3)) ∷ code (small 3) (fetch 6 1 1) (fresh_state (small 3))
    ∷ code (small 3) (write 5 1 (7 ∷ [])) (fresh_state (small 3)) ∷ code (small 3) (write 6 1 (7 ∷ [])) (fresh_state (small 3)) ∷ [])
    (0 ∷ 4 ∷ 0 ∷ 4 ∷ 0 ∷ 4 ∷ []) ∷
    -- K12: reconstruction-write, 3 records, 3 listed
    ex (logged_by 3 2 (5 ∷ 6 ∷ [])) (1 ∷ 3 ∷ 3 ∷ []) ∷
    -- K13: read-modify-write, 2 records, 1 listed
    ex (logged_by 2 1 (5 ∷ [])) (0 ∷ 2 ∷ 1 ∷ []) ∷
    []

pub all_hold : Holds examples
unfolding bad_measures bad_length bad_member too_many make_code members_code recover_code accepted make_buffer recover_buffer double pow2 times_low times raised inverse from gen block byte_of blocks_of changed each_column pick sum one weight parity_p parity_q weight_in parity_of parity.made without rest_p rest_q from_p from_q from_both solved data_solved recovered fixed member_of choose bit count total any first lesser set_at blank block_parity other_missing worked_back is_some fresh_state row code_of settled made remade append_one append logged write_stripe write_to block_at resynced rebuilt work after after_all buffer_of
all_hold = (refl, (refl, (refl, (refl, (refl, (refl, (refl, (refl, (refl, (refl, (refl, (refl, (refl, (refl, (refl, (refl, tt))))))))))))))))

-- ---- the printed session

-- a line of the session: the call, its code, mode, listed and next after it, and the first byte read (0 if none)
pub record Line : Type 0 where
  pub call : Call
  pub code : ℕ
  pub mode : ℕ
  pub listed : ℕ
  pub next : ℕ
  pub first : ℕ

abbrev pub line : Call → ℕ → ℕ → ℕ → ℕ → ℕ → Line
line c n m k x y = record { call = c; code = n; mode = m; listed = k; next = x; first = y }

-- the printed session, where this line reads block 1
abbrev pub session_with : Line → List Line
session_with l =
    line start 0 1 0 0 0 ∷
    line (write 1 1 (7 ∷ [])) 0 1 1 2 0 ∷
    line (fail 0) 0 1 1 2 0 ∷
    line (fail 1) 0 1 1 2 0 ∷
    l ∷
    line rebuild 0 1 1 2 0 ∷
    line (write 1 1 (9 ∷ [])) 0 1 1 3 0 ∷
    line (write 4 1 (5 ∷ [])) 0 1 1 3 0 ∷
    line resync 0 0 0 0 0 ∷
    line (fail 6) 6 0 0 0 0 ∷
    []

-- with a plain read, as it is printed, and with a fetch
abbrev pub printed : List Line
printed = session_with (line (read 1 1 1) 16 1 1 2 0)

abbrev pub fetched : List Line
fetched = session_with (line (fetch 1 1 1) 0 1 1 2 7)

-- the first byte that a call with this code hands over, where a read of n blocks from address a on gives the bytes (plain a n), a fetch (full a n)
unfoldable pub first_byte : Call → ℕ → (ℕ → ℕ → List ℕ) → (ℕ → ℕ → List ℕ) → ℕ
first_byte start n plain full = 0
first_byte (fail j) n plain full = 0
first_byte (put_back j) n plain full = 0
first_byte (write a k v) n plain full = 0
first_byte (read a k len) n plain full = choose (eqb n 0) (get_or (plain a k) 0 0) 0
first_byte (fetch a k len) n plain full = choose (eqb n 0) (get_or (full a k) 0 0) 0
first_byte resync n plain full = 0
first_byte rebuild n plain full = 0
first_byte new_log n plain full = 0
first_byte full_resync n plain full = 0

-- the lines with their numbers worked out by a shelf in state s; after each call the bytes of failed members change
unfoldable pub by_shelf : Geometry → List Line → State → List Line
by_shelf g [] s = []
by_shelf g (l ∷ ls) s =
    let c = l.call in
    let t = after g c s in
    line c (code g c s) t.mode (marks_in g (listed t.log)) t.log.next (first_byte c (code g c s) (read_buffer g s) (fetch_buffer g s))
    ∷ by_shelf g ls (gone g t)

-- and by a book: marks for listed, u for next, and the block held for the one read
unfoldable pub by_book : Geometry → List Line → Book → List Line
by_book g [] b = []
by_book g (l ∷ ls) b =
    let c = l.call in
    let t = book_after g c b in
    let bytes : ℕ → ℕ → List ℕ = λ a _. b.held (a / g.d) (a % g.d) in
    line c (book_code g c b) t.state.mode (marks_in g t.state.marks) t.state.used (first_byte c (book_code g c b) bytes bytes)
    ∷ by_book g ls t

-- shelf and book both give these lines
abbrev pub Runs : Geometry → List Line → Type 0
Runs g ls = (by_shelf g ls (fresh_state g) ≡ ls) × (by_book g ls (fresh_book g) ≡ ls)

pub as_printed : Runs (small 3) printed × Runs (small 3) fetched
unfolding double pow2 times_low times raised inverse from gen block blocks_of pick sum one weight parity_p parity_q weight_in parity_of without rest_p rest_q from_p from_q from_both solved fixed member_of choose bit count total any first lesser set_at blank block_parity other_missing worked_back is_some fresh_state row code_of settled made remade append_one append logged write_stripe write_to block_at resynced rebuilt work after buffer_of fresh_book closed marked used_then mark_stripe mark_to book_work book_after first_byte by_shelf by_book
as_printed = ((refl, refl), (refl, refl))

-- ---- sessions in a layout and with a number of parities: d 2, s stripes, blocks of one byte

abbrev pub shaped : ℕ → ℕ → ℕ → Geometry
shaped layout parities s = record { d = 2; s = s; b = 1; l = 8; h = 2; e = 4; layout = layout; parities = parities }

-- Two parities: in either layout member 3 has P or Q of both stripes, and member 1 has data alone. A rebuild of member 3 leaves mode 1, with nothing
-- listed and with a block listed, which it drops; each time the next write is logged, from record 0 on. A rebuild of member 1 leaves list and mode.
-- In mode 2 a rebuild of member 3 leaves mode 0, since the list ends empty.
abbrev pub parity_rebuilt : List Line
parity_rebuilt =
    line start 0 1 0 0 0 ∷
    line (fail 3) 0 1 0 0 0 ∷
    line rebuild 0 1 0 0 0 ∷
    line (write 0 1 (7 ∷ [])) 0 1 1 2 0 ∷
    line (fail 1) 0 1 1 2 0 ∷
    line rebuild 0 1 1 2 0 ∷
    line (fail 3) 0 1 1 2 0 ∷
    line rebuild 0 1 0 0 0 ∷
    line start 7 1 0 0 0 ∷
    line (write 1 1 (8 ∷ [])) 0 1 1 2 0 ∷
    line (write 2 1 (9 ∷ [])) 0 1 2 4 0 ∷
    line resync 0 2 1 4 0 ∷
    line (fail 3) 0 2 1 4 0 ∷
    line rebuild 0 0 0 0 0 ∷
    line start 0 1 0 0 0 ∷
    line (read 2 1 1) 0 1 0 0 9 ∷
    line (fetch 2 1 1) 0 1 0 0 9 ∷
    []

-- The rotating layout, three stripes. Member 3 has P of stripe 0, Q of stripe 1 and data index 0 of stripe 2. All three are stale when it is rebuilt, and
-- stripe 2 stays so. Member 2 has data index 1 of stripe 0, P of stripe 1 and Q of stripe 2: with the log failed too, it is rebuilt, and the list ends
-- empty.
abbrev pub three_kinds : List Line
three_kinds =
    line start 0 1 0 0 0 ∷
    line (write 0 1 (7 ∷ [])) 0 1 1 2 0 ∷
    line (write 2 1 (8 ∷ [])) 0 1 2 4 0 ∷
    line (write 4 1 (9 ∷ [])) 0 1 3 6 0 ∷
    line (fail 3) 0 1 3 6 0 ∷
    line (read 4 1 1) 16 1 3 6 0 ∷
    line (fetch 4 1 1) 0 1 3 6 9 ∷
    line rebuild 0 1 1 6 0 ∷
    line (fail 2) 0 1 1 6 0 ∷
    line (fail 4) 0 2 1 6 0 ∷
    line (read 4 1 1) 0 2 1 6 9 ∷
    line (fetch 4 1 1) 0 2 1 6 9 ∷
    line rebuild 0 0 0 0 0 ∷
    line new_log 0 0 0 0 0 ∷
    line (fail 0) 0 0 0 0 0 ∷
    line (read 2 1 1) 16 0 0 0 0 ∷
    line (fetch 2 1 1) 0 0 0 0 8 ∷
    []

-- Member 0 has data index 1 of stripe 2: with the log failed too, the stale stripe's block is withheld, though it has Q of stripe 0.
abbrev pub withheld_there : List Line
withheld_there =
    line start 0 1 0 0 0 ∷
    line (write 4 1 (9 ∷ [])) 0 1 1 2 0 ∷
    line (fail 0) 0 1 1 2 0 ∷
    line (fail 4) 0 2 1 2 0 ∷
    line (read 5 1 1) 16 2 1 2 0 ∷
    line (fetch 5 1 1) 14 2 1 2 0 ∷
    line (read 4 1 1) 0 2 1 2 9 ∷
    line (fetch 4 1 1) 0 2 1 2 9 ∷
    line rebuild 14 2 1 2 0 ∷
    []

-- One parity, in either layout: the log is member 3, and member 2 has P of stripe 0. A second failure gets 11, the log's too. Block 1 is worked back
-- from P and the original of block 0. With the log failed every disk is sound, so nothing is withheld.
abbrev pub single_parity : List Line
single_parity =
    line (write 0 2 (5 ∷ 6 ∷ [])) 0 0 0 0 0 ∷
    line start 0 1 0 0 0 ∷
    line (write 0 1 (7 ∷ [])) 0 1 1 2 0 ∷
    line (fail 4) 6 1 1 2 0 ∷
    line (fail 1) 0 1 1 2 0 ∷
    line (fail 3) 11 1 1 2 0 ∷
    line (read 1 1 1) 16 1 1 2 0 ∷
    line (fetch 1 1 1) 0 1 1 2 6 ∷
    line rebuild 0 1 1 2 0 ∷
    line (fail 3) 0 2 1 2 0 ∷
    line (fail 0) 11 2 1 2 0 ∷
    line (fetch 0 1 1) 0 2 1 2 7 ∷
    line resync 0 0 0 0 0 ∷
    line new_log 0 0 0 0 0 ∷
    line (fail 0) 0 0 0 0 0 ∷
    line (fetch 0 1 1) 0 0 0 0 7 ∷
    line rebuild 0 0 0 0 0 ∷
    line start 0 1 0 0 0 ∷
    line (write 1 1 (9 ∷ [])) 0 1 1 2 0 ∷
    line (fail 2) 0 1 1 2 0 ∷
    line rebuild 0 1 0 0 0 ∷
    []

-- One parity, rotating, three stripes: P of stripe 1 is on member 1 and of stripe 2 on member 0, data index 0 on the member after it. Member 1 has P of
-- stripe 1, whose entries a rebuild of it drops, and data index 0 of stripe 2, which it fills from the log.
abbrev pub single_rotating : List Line
single_rotating =
    line (write 2 2 (5 ∷ 6 ∷ [])) 0 0 0 0 0 ∷
    line start 0 1 0 0 0 ∷
    line (write 2 1 (7 ∷ [])) 0 1 1 2 0 ∷
    line (write 4 1 (8 ∷ [])) 0 1 2 4 0 ∷
    line (fail 1) 0 1 2 4 0 ∷
    line (read 2 2 2) 0 1 2 4 7 ∷
    line (read 4 1 1) 16 1 2 4 0 ∷
    line (fetch 4 1 1) 0 1 2 4 8 ∷
    line rebuild 0 1 1 4 0 ∷
    line (fail 2) 0 1 1 4 0 ∷
    line (fetch 2 1 1) 0 1 1 4 7 ∷
    []

pub in_shapes : Runs (shaped 0 2 2) parity_rebuilt × (Runs (shaped 1 2 2) parity_rebuilt × (Runs (shaped 1 2 3) three_kinds × (Runs (shaped 1 2 3) withheld_there
    × (Runs (shaped 0 1 2) single_parity × (Runs (shaped 1 1 2) single_parity × Runs (shaped 1 1 3) single_rotating)))))
unfolding double pow2 times_low times raised inverse from gen block blocks_of pick sum one weight parity_p parity_q weight_in parity_of without rest_p rest_q from_p from_q from_both solved member_after after_p rotating fixed member_of choose bit count total any first lesser set_at blank block_parity other_missing worked_back is_some fresh_state row code_of settled made remade append_one append logged write_stripe write_to block_at resynced rebuilt work after buffer_of fresh_book closed marked used_then mark_stripe mark_to book_work book_after first_byte by_shelf by_book
in_shapes = ((refl, refl), ((refl, refl), ((refl, refl), ((refl, refl), ((refl, refl), ((refl, refl), (refl, refl)))))))

-- ---- the session's shelf as bytes

-- a record of this mode, next and listed, with no member failed
abbrev pub record_with : ℕ → ℕ → ℕ → Shelf
record_with m x k = record { geometry = small 3; mode = m; next = x; listed = k; failed = replicate 19 false }

-- a record in mode 0 with this number of parities and these flags
abbrev pub flagged : ℕ → List Bool → Shelf
flagged p f =
    record { geometry = record { d = 3; s = 2; b = 1; l = 4; h = 2; e = 4; layout = 0; parities = p }; mode = 0; next = 0; listed = 0; failed = f }

-- a list with one block listed: in slot 1, place 0 has these four words; slot 0 and the other places have none
abbrev pub one_listed : ℕ → ℕ → ℕ → ℕ → List ℕ
one_listed a o c x = bytes_of (none_word ∷ 0 ∷ a ∷ o ∷ c ∷ x ∷ replicate 12 none_word)

-- the session's array and log after the write: members one after another, two blocks each; the original of block 1, then its latest value
abbrev pub array : List ℕ
array = 0 ∷ 0 ∷ 7 ∷ 0 ∷ 0 ∷ 0 ∷ 0 ∷ 0 ∷ 0 ∷ 0 ∷ []

abbrev pub log_bytes : List ℕ
log_bytes = 0 ∷ 7 ∷ 0 ∷ 0 ∷ []

-- the number of a read of address 1, by this record and list
abbrev pub read_number : Shelf → List ℕ → ℕ
read_number r l = number_of r 10 4 l (read 1 1 1)

abbrev pub after_write : State
after_write = after_all (small 3) (start ∷ write 1 1 (7 ∷ []) ∷ []) (fresh_state (small 3))

-- K12's list: blocks 0 and 1 have Cur 1 and 2, block 2 has Ori 0. Slot 0 has blocks 0 and 2, slot 1 block 1; from block 0's place the chain goes on to
-- place x
abbrev pub k12_list : ℕ → List ℕ
k12_list x =
    bytes_of (0 ∷ 1 ∷ 0 ∷ none_word ∷ 1 ∷ x ∷ 1 ∷ none_word ∷ 2 ∷ none_word ∷ 2 ∷ 0 ∷ none_word ∷ none_word ∷ replicate 4 none_word)

-- block 1 listed twice
abbrev pub twice_listed : List ℕ
twice_listed = bytes_of (none_word ∷ 0 ∷ 1 ∷ 0 ∷ 1 ∷ 1 ∷ 1 ∷ 0 ∷ 1 ∷ none_word ∷ replicate 8 none_word)

-- Blocks 1, 3 and 4 listed, with Ori 0, 2 and 0 and Cur 1, 3 and 3: slot 0 has block 4, slot 1 has blocks 1 and 3. The heads of both slots, the
-- Next of places 0 to 2 and the words of place 3 are given
abbrev pub arranged : ℕ → ℕ → ℕ → ℕ → ℕ → List ℕ → List ℕ
arranged h0 h1 x0 x1 x2 rest = bytes_of (h0 ∷ h1 ∷ 1 ∷ 0 ∷ 1 ∷ x0 ∷ 3 ∷ 2 ∷ 3 ∷ x1 ∷ 4 ∷ 0 ∷ 3 ∷ x2 ∷ rest)

-- the same blocks, those of places 0 and 1 changed over and the chain by them; and with place 1 left unused
abbrev pub swapped : List ℕ
swapped = bytes_of (2 ∷ 1 ∷ 3 ∷ 2 ∷ 3 ∷ none_word ∷ 1 ∷ 0 ∷ 1 ∷ 0 ∷ 4 ∷ 0 ∷ 3 ∷ none_word ∷ replicate 4 none_word)

abbrev pub gapped : List ℕ
gapped =
    bytes_of (3 ∷ 0 ∷ 1 ∷ 0 ∷ 1 ∷ 2 ∷ none_word ∷ none_word ∷ none_word ∷ none_word ∷ 3 ∷ 2 ∷ 3 ∷ none_word ∷ 4 ∷ 0 ∷ 3 ∷ none_word ∷ [])

abbrev pub nones : List ℕ
nones = replicate 4 none_word

-- the number of a read of address 1 where these three blocks are listed
abbrev pub three_number : List ℕ → ℕ
three_number l = read_number (record_with 1 4 3) l

abbrev pub on_bytes : List Example
on_bytes =
    -- the line of format: its number, then mode, listed and next of what it leaves
    (let s = state_of (formatted (small 3)) in
    ex (format_code (small 3) 10 4 72 ∷ s.mode ∷ marks_in (small 3) (listed s.log) ∷ s.log.next ∷ 0 ∷ []) (0 ∷ 0 ∷ 0 ∷ 0 ∷ 0 ∷ [])) ∷
    ex (formatted (small 3)).array (replicate 10 0) ∷
    ex (formatted (small 3)).log (replicate 4 0) ∷
    ex (formatted (small 3)).list (replicate 72 255) ∷
    -- the calls on what format leaves: start, a read, a fetch, resync (7), rebuild and new log (12), full resync
    (let h = formatted (small 3) in
    let n = number_of h.shelf (length h.array) (length h.log) h.list in
    ex (n start ∷ n (read 5 1 1) ∷ n (fetch 5 1 1) ∷ n resync ∷ n rebuild ∷ n new_log ∷ n full_resync ∷ []) (0 ∷ 0 ∷ 0 ∷ 7 ∷ 12 ∷ 12 ∷ 0 ∷ [])) ∷
    -- after the write: array, log, list and record
    ex (array_of (small 3) after_write) array ∷
    ex (log_of (small 3) after_write) log_bytes ∷
    ex (list_of (small 3) after_write) (one_listed 1 0 1 none_word) ∷
    ex
    (let r = record_of (small 3) after_write in r.mode ∷ r.next ∷ r.listed ∷ count 19 (flag_at r) ∷ []) (1 ∷ 2 ∷ 1 ∷ 0 ∷ []) ∷
    -- the list then: block 1 with Ori 0 and Cur 1 passes, and is what the bytes say
    (let s = state_of (lent (record_with 1 2 1) array log_bytes (one_listed 1 0 1 none_word)) in
    ex (read_number (record_with 1 2 1) (one_listed 1 0 1 none_word) ∷ marks_in (small 3) (listed s.log) ∷ bit (listed s.log 0 1) ∷ read_buffer (small 3) s 1 1)
    (0 ∷ 1 ∷ 1 ∷ 7 ∷ [])) ∷
    -- number 1: mode above 2; next above l; listed 0 with next above 0; mode 0 with listed above 0
    ex
    (read_number (record_with 3 2 1) (one_listed 1 0 1 none_word) ∷ read_number (record_with 1 5 1) (one_listed 1 0 1 none_word)
    ∷ read_number (record_with 1 2 0) (one_listed 1 0 1 none_word) ∷ read_number (record_with 0 2 1) (one_listed 1 0 1 none_word) ∷ [])
    (1 ∷ 1 ∷ 1 ∷ 1 ∷ []) ∷
    -- by the number of parities: none, three; one, with the array of one and of two; flags of a disk, of the log and of the member above it, and two;
    -- the same with two parities
    (let n : ℕ → ℕ → (ℕ → Bool) → ℕ = λ p len f. number_of (flagged p (flags_from 0 19 f)) len 4 (replicate 72 255) (read 1 1 1) in
    ex
    (n 0 6 (eqb 19) ∷ n 3 12 (eqb 19) ∷ n 1 8 (eqb 19) ∷ n 1 10 (eqb 19) ∷ n 1 8 (eqb 0) ∷ n 1 8 (eqb 4) ∷ n 1 8 (eqb 5) ∷ n 1 8 (λ i. eqb i 0 || eqb i 4)
    ∷ n 2 8 (eqb 19) ∷ n 2 10 (eqb 5) ∷ n 2 10 (eqb 6) ∷ n 2 10 (λ i. eqb i 0 || eqb i 5) ∷ n 2 10 (λ i. ltb i 3) ∷ [])
    (1 ∷ 1 ∷ 0 ∷ 2 ∷ 0 ∷ 0 ∷ 1 ∷ 1 ∷ 2 ∷ 0 ∷ 1 ∷ 0 ∷ 1 ∷ [])) ∷
    -- put-backs: with one parity of the failed disk, of the sound P and of the failed log, member 4; with two of the failed Q, member 4, and of the log
    (let n : ℕ → ℕ → ℕ → ℕ → ℕ = λ p len failed j. number_of (flagged p (flags_from 0 19 (eqb failed))) len 4 (replicate 72 255) (put_back j) in
    ex (n 1 8 0 0 ∷ n 1 8 0 3 ∷ n 1 8 4 4 ∷ n 2 10 4 4 ∷ n 2 10 5 5 ∷ []) (0 ∷ 12 ∷ 6 ∷ 0 ∷ 6 ∷ [])) ∷
    -- number 2: array, log and list one byte too long
    ex
    (number_of (record_with 1 2 1) 11 4 (one_listed 1 0 1 none_word) start ∷ number_of (record_with 1 2 1) 10 5 (one_listed 1 0 1 none_word) start
    ∷ number_of (record_with 1 2 1) 10 4 (0 ∷ one_listed 1 0 1 none_word) start ∷ [])
    (2 ∷ 2 ∷ 2 ∷ []) ∷
    -- number 3: the chain repeats its place; it leaves the list; more listed than the chains hold; address not below 6; in a wrong slot; Ori not below
    -- next; Cur not below next; both none; Ori lacking where blocks of the stripe are unlisted; an address twice
    ex
    (read_number (record_with 1 2 1) (one_listed 1 0 1 0) ∷ read_number (record_with 1 2 1) (one_listed 1 0 1 4)
    ∷ read_number (record_with 1 2 2) (one_listed 1 0 1 none_word) ∷ read_number (record_with 1 2 1) (one_listed 7 0 1 none_word)
    ∷ read_number (record_with 1 2 1) (one_listed 2 0 1 none_word) ∷ read_number (record_with 1 2 1) (one_listed 1 2 1 none_word)
    ∷ read_number (record_with 1 2 1) (one_listed 1 0 2 none_word) ∷ read_number (record_with 1 2 1) (one_listed 1 none_word none_word none_word)
    ∷ read_number (record_with 1 2 1) (one_listed 1 none_word 1 none_word) ∷ read_number (record_with 1 2 2) twice_listed ∷ [])
    (3 ∷ 3 ∷ 3 ∷ 3 ∷ 3 ∷ 3 ∷ 3 ∷ 3 ∷ 3 ∷ 3 ∷ []) ∷
    -- three blocks in the one arrangement pass, and are laid out so again
    (let l = arranged 2 0 1 none_word none_word nones in
    ex (three_number l ∷ list_of (small 3) (state_of (lent (record_with 1 4 3) array log_bytes l))) (0 ∷ l)) ∷
    -- in any other they get 3: the chain falls; it repeats a place; it has a block of another slot; it leaves the list; a block is in no chain; two
    -- places are changed over; one between them is unused
    ex
    (three_number (arranged 2 1 none_word 0 none_word nones) ∷ three_number (arranged 2 0 1 0 none_word nones)
    ∷ three_number (arranged none_word 0 1 2 none_word nones) ∷ three_number (arranged 2 0 1 4 none_word nones)
    ∷ three_number (arranged none_word 0 1 none_word none_word nones) ∷ three_number swapped ∷ three_number gapped ∷ [])
    (3 ∷ 3 ∷ 3 ∷ 3 ∷ 3 ∷ 3 ∷ 3 ∷ []) ∷
    -- and so they do where a word behind the entries is used: the address, Ori, Cur or Next of place 3
    (let behind : List ℕ → ℕ = λ p. three_number (arranged 2 0 1 none_word none_word p) in
    ex
    (behind (5 ∷ none_word ∷ none_word ∷ none_word ∷ []) ∷ behind (none_word ∷ 0 ∷ none_word ∷ none_word ∷ [])
    ∷ behind (none_word ∷ none_word ∷ 0 ∷ none_word ∷ []) ∷ behind (none_word ∷ none_word ∷ none_word ∷ 0 ∷ []) ∷ [])
    (3 ∷ 3 ∷ 3 ∷ 3 ∷ [])) ∷
    -- K12's list passes; with the untouched block 2 left unlisted it does not
    ex (read_number (record_with 1 3 3) (k12_list 2) ∷ read_number (record_with 1 3 2) (k12_list none_word) ∷ []) (0 ∷ 3 ∷ []) ∷
    []

pub bytes_hold : Holds on_bytes
unfolding block byte_of from gen blocks_of fixed member_of place choose bit count total any first lesser set_at blank block_parity other_missing worked_back is_some fresh_state row code_of settled made append_one append logged write_stripe write_to block_at work after after_all words bytes_of seek lookup entries_from entries put_front put_all encode rises has has_all is_record good_words good_entry all_good same valid said record_at state_of rows.bad_measures bad_record bad_lengths tries_list input_rows number_of flags_from role_of array_of log_of word_of entries_of list_of buffer_of format_code formatted
bytes_hold =
    (refl, (refl, (refl, (refl, (refl, (refl, (refl, (refl, (refl, (refl, (refl, (refl, (refl, (refl, (refl, (refl, (refl, (refl, (refl, tt)))))))))))))))))))
