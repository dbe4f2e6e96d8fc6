-- What each call does to a shelf, where no row of `Status.antt` or `Lent.antt` refuses it. Tables run over stripes below s, data indices below
-- d and parity numbers below the number of parities; what they hold beyond is of no account. The stripe that a resync makes is `resync_stripe`; which
-- stripe it tells and the buffers that read and fetch fill stand in `Lent.antt`.
-- Assumes nothing.
use Rattle.std.specs.Prelude.{Bool, true, false, not, ◌&&◌, List, ℕ, zero, suc, ◌+◌, ◌-◌, eqb, ltb, leb}
use Rattle.std.specs.Prelude.{Option, None as none, Some as some}
use Rattle.stripe.specs.Blocks.{block}
use Rattle.shelf.specs.Counting.{choose, count, any, set_at}
use Rattle.shelf.specs.Members.{array_members, log_member, parity_role, member_at, address_of, block_parity, worked_back}
use Rattle.shelf.specs.State.{Log, State, is_some, listed, marks_in, lowest_stale}
use Rattle.shelf.specs.Status.{Call, start, fail, put_back, write, read, fetch, resync, rebuild, new_log, full_resync, code_of}
use Rattle.shelf.specs.declared.record.Geometry.{Geometry}

-- ---- parts that several calls share

abbrev pub in_mode : State → ℕ → State
in_mode s m = record { disk = s.disk; parity = s.parity; log = s.log; mode = m; failed = s.failed }

abbrev pub with_flags : State → (ℕ → Bool) → State
with_flags s f = record { disk = s.disk; parity = s.parity; log = s.log; mode = s.mode; failed = f }

-- the next free record and the mode, with so many blocks left listed
abbrev pub next_left : ℕ → ℕ → ℕ
next_left marks next = choose (eqb marks 0) 0 next

abbrev pub mode_left : ℕ → ℕ → ℕ
mode_left marks mode = choose (eqb marks 0 && eqb mode 2) 0 mode

abbrev pub with_next : Log → ℕ → Log
with_next n r = record { value = n.value; next = r; ori = n.ori; cur = n.cur }

-- Whenever the last listed block is dropped, the next free record becomes 0, so log records are used again, and mode 2 becomes 0. Where nothing was
-- listed before, row 1 has seen to both already. Mode 1 remains mode 1.
unfoldable pub settled : Geometry → State → State
settled g s =
    record {
      disk = s.disk;
      parity = s.parity;
      log = with_next s.log (next_left (marks_in g (listed s.log)) s.log.next);
      mode = mode_left (marks_in g (listed s.log)) s.mode;
      failed = s.failed;
    }

-- the list without the blocks of the stripes that pass the test; the log's values stay
abbrev pub dropped : Log → (ℕ → Bool) → Log
dropped n t =
    record { value = n.value; next = n.next; ori = λ x i. choose (t x) none (n.ori x i); cur = λ x i. choose (t x) none (n.cur x i) }

-- Parity made afresh in the stripes that pass the test, of these data blocks, and their listed blocks dropped; the rest as it was
abbrev pub afresh : Geometry → State → (ℕ → Bool) → (ℕ → ℕ → List ℕ) → State
afresh g s t disk =
    record {
      disk = disk;
      parity = λ x p. choose (t x) (block_parity g p (disk x)) (s.parity x p);
      log = dropped s.log t;
      mode = s.mode;
      failed = s.failed;
    }

-- Stripe x with these data blocks: parity is made afresh, its listed blocks are dropped, and the rest is settled.
unfoldable pub made : Geometry → State → ℕ → (ℕ → List ℕ) → State
made g s x row = settled g (afresh g s (λ y. eqb y x) (set_at x row s.disk))

-- the list empty and every log record free; the log's values stay
abbrev pub emptied : Log → Log
emptied n = record { value = n.value; next = 0; ori = λ _ _. none; cur = λ _ _. none }

-- All stripes with these data blocks and failed members: parity is made afresh, the whole list is dropped, and the mode is 0.
unfoldable pub remade : Geometry → State → (ℕ → ℕ → List ℕ) → (ℕ → Bool) → State
remade g s disk f =
    record { disk = disk; parity = λ x p. block_parity g p (disk x); log = emptied s.log; mode = 0; failed = f }

-- ---- write, one stripe: w tells which data indices are written, m which are listed

-- the blocks to be written that are unlisted, and the other unlisted ones
abbrev pub unlisted_written : (ℕ → Bool) → (ℕ → Bool) → ℕ → Bool
unlisted_written w m i = w i && not (m i)

abbrev pub unlisted_others : (ℕ → Bool) → (ℕ → Bool) → ℕ → Bool
unlisted_others w m i = not (w i) && not (m i)

-- Read-modify-write pre-reads the former, reconstruction-write the latter; the fewer pre-reads win, a tie goes to read-modify-write.
abbrev pub reconstructs : ℕ → (ℕ → Bool) → (ℕ → Bool) → Bool
reconstructs d w m = ltb (count d (unlisted_others w m)) (count d (unlisted_written w m))

abbrev pub pre_read : ℕ → (ℕ → Bool) → (ℕ → Bool) → ℕ → Bool
pre_read d w m i = choose (reconstructs d w m) (unlisted_others w m i) (unlisted_written w m i)

-- the log records and the list's places that a logged stripe takes: a record for each block that is pre-read or written, a place for each block that
-- is listed anew
abbrev pub records_for : ℕ → (ℕ → Bool) → (ℕ → Bool) → ℕ
records_for d w m = count d (pre_read d w m) + count d w

abbrev pub places_for : ℕ → (ℕ → Bool) → (ℕ → Bool) → ℕ
places_for d w m = choose (reconstructs d w m) (count d (unlisted_written w m) + count d (unlisted_others w m)) (count d (unlisted_written w m))

-- whether stripe x is logged: in mode 1, where log and list have room
abbrev pub logs : Geometry → State → ℕ → (ℕ → Bool) → Bool
logs g s x w =
    eqb s.mode 1
    && (leb (s.log.next + records_for g.d w (listed s.log x)) g.l
    && leb (marks_in g (listed s.log) + places_for g.d w (listed s.log x)) g.e)

-- Appending to the log: the values so far, the next free record, and the records of a stripe's blocks, which are Ori of the pre-read values and Cur
-- of the new ones.
pub record Appended : Type 0 where
  pub value : ℕ → List ℕ
  pub next : ℕ
  pub noted : ℕ → Option ℕ

-- block v of data index i is appended, where it is picked
unfoldable pub append_one : Bool → ℕ → List ℕ → Appended → Appended
append_one true i v a =
    record { value = set_at a.next v a.value; next = suc a.next; noted = set_at i (some a.next) a.noted }
append_one false i v a = a

-- in rising data index, those of the first c that are picked
unfoldable pub append : ℕ → (ℕ → Bool) → (ℕ → List ℕ) → Appended → Appended
append zero w v a = a
append (suc c) w v a = append_one (w c) c (v c) (append c w v a)

-- the blocks of a row, those that are written replaced
abbrev pub overwritten : (ℕ → Bool) → (ℕ → List ℕ) → (ℕ → List ℕ) → ℕ → List ℕ
overwritten w v old i = choose (w i) (v i) (old i)

-- Pre-read values of stripe x are appended, with Ori set; then each new value, with Cur set.
abbrev pub ori_appended : Geometry → State → ℕ → (ℕ → Bool) → Appended
ori_appended g s x w =
    append g.d (pre_read g.d w (listed s.log x)) (s.disk x)
    (record { value = s.log.value; next = s.log.next; noted = s.log.ori x })

abbrev pub cur_appended : Geometry → State → ℕ → (ℕ → Bool) → (ℕ → List ℕ) → Appended
cur_appended g s x w v =
    append g.d w v (record { value = (ori_appended g s x w).value; next = (ori_appended g s x w).next; noted = s.log.cur x })

-- Stripe x logged: pre-read values, new values, then the disks get the new blocks; parity is untouched.
unfoldable pub logged : Geometry → State → ℕ → (ℕ → Bool) → (ℕ → List ℕ) → State
logged g s x w v =
    record {
      disk = set_at x (overwritten w v (s.disk x)) s.disk;
      parity = s.parity;
      log =
          record {
            value = (cur_appended g s x w v).value;
            next = (cur_appended g s x w v).next;
            ori = set_at x (ori_appended g s x w).noted s.log.ori;
            cur = set_at x (cur_appended g s x w v).noted s.log.cur;
          };
      mode = s.mode;
      failed = s.failed;
    }

-- A stripe is logged where it can be; else the disks get the new blocks, parity is made afresh, and the stripe's listed blocks are dropped.
unfoldable pub write_stripe : Geometry → State → ℕ → (ℕ → Bool) → (ℕ → List ℕ) → State
write_stripe g s x w v = choose (logs g s x w) (logged g s x w v) (made g s x (overwritten w v (s.disk x)))

-- ---- write, in stripes: n blocks from address a on, out of the caller's data

-- which blocks of stripe x are written, and what
abbrev pub written : Geometry → ℕ → ℕ → ℕ → ℕ → Bool
written g a n x i = leb a (address_of g x i) && ltb (address_of g x i) (a + n)

abbrev pub given : Geometry → ℕ → List ℕ → ℕ → ℕ → List ℕ
given g a v x i = block g.b (address_of g x i - a) v

-- in rising order, those of the first c stripes that have a block to be written
unfoldable pub write_to : Geometry → ℕ → ℕ → ℕ → List ℕ → State → State
write_to g zero a n v s = s
write_to g (suc c) a n v s =
    let r = write_to g c a n v s in
    choose (any g.d (written g a n c)) (write_stripe g r c (written g a n c) (given g a v c)) r

-- ---- read and fetch: a plain read gives the disks' own blocks, `disk` of the state

abbrev pub or_else : {A : Type 0} → Option ℕ → (ℕ → A) → A → A
or_else none f z = z
or_else (some r) f z = f r

-- The originals of stripe x that parity is worked back from: a listed block's Ori, an unlisted one's bytes if its disk is sound; all else is missing,
-- and what stands in `original` for it is not looked at.
abbrev pub original : Geometry → State → ℕ → ℕ → List ℕ
original g s x i =
    choose (ltb i g.d) (or_else (s.log.ori x i) s.log.value (s.disk x i)) (s.parity x (i - g.d))

abbrev pub missing : Geometry → State → ℕ → ℕ → Bool
missing g s x i = choose (ltb i g.d && listed s.log x i) (not (is_some (s.log.ori x i))) (s.failed (member_at g x i))

-- the block that a fetch gives: its disk's, or on a failed disk Cur, else Ori, else worked back by parity
unfoldable pub block_at : Geometry → State → ℕ → ℕ → List ℕ
block_at g s x i =
    choose (s.failed (member_at g x i))
    (or_else (s.log.cur x i) s.log.value
    (or_else (s.log.ori x i) s.log.value (worked_back g (missing g s x) (original g s x) i)))
    (s.disk x i)

-- ---- resync

-- the stripe that a resync makes and tells, or s where none is stale
abbrev pub resync_stripe : Geometry → State → ℕ
resync_stripe g s = lowest_stale g (listed s.log)

-- Mode 2; the parities of the lowest stale stripe are made and its listed blocks dropped. If none is stale, nothing is stored and the mode is 0.
unfoldable pub resynced : Geometry → State → State
resynced g s =
    let x = resync_stripe g s in choose (ltb x g.s) (made g (in_mode s 2) x (s.disk x)) (in_mode s 0)

-- ---- rebuild

-- a parity of stripe x is on a failed member
abbrev pub parity_failed : Geometry → (ℕ → Bool) → ℕ → Bool
parity_failed g f x = any g.parities (λ p. f (member_at g x (parity_role g p)))

abbrev pub array_cleared : Geometry → (ℕ → Bool) → ℕ → Bool
array_cleared g f i = choose (ltb i (array_members g)) false (f i)

-- Every data block on a failed member is filled with what fetch would give; one on a sound member is read as it is. In the stripes that had a parity
-- on a failed member, and only there, all parities are made afresh and the listed blocks are dropped. All array flags clear, and the rest is
-- settled: mode 2 becomes 0 where the list ends empty, and mode 1 remains mode 1, with or without listed blocks before and after.
unfoldable pub rebuilt : Geometry → State → State
rebuilt g s = settled g (with_flags (afresh g s (parity_failed g s.failed) (block_at g s)) (array_cleared g s.failed))

-- ---- the calls

-- The mode after member j failed, with so many blocks listed: if j is the log, mode 1 becomes 2 when blocks are listed, else 0.
abbrev pub mode_without : Geometry → ℕ → ℕ → ℕ → ℕ
mode_without g j marks mode = choose (eqb j (log_member g) && eqb mode 1) (choose (eqb marks 0) 0 2) mode

-- what an accepted call does
unfoldable pub work : Geometry → Call → State → State
work g start s = in_mode s 1
work g (fail j) s = in_mode (with_flags s (set_at j true s.failed)) (mode_without g j (marks_in g (listed s.log)) s.mode)
work g (put_back j) s = with_flags s (set_at j false s.failed)
work g (write a n v) s = write_to g g.s a n v s
work g (read a n len) s = s
work g (fetch a n len) s = s
work g resync s = resynced g s
work g rebuild s = rebuilt g s
work g new_log s = with_flags s (set_at (log_member g) false s.failed)
work g full_resync s = remade g s s.disk s.failed

-- the number that a call gets from the shelf
abbrev pub code : Geometry → Call → State → ℕ
code g c s = code_of g s.failed s.mode (listed s.log) c

-- what a call leaves; a refused one stores nothing
unfoldable pub after : Geometry → Call → State → State
after g c s = choose (eqb (code g c s) 0) (work g c s) s
