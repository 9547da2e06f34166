-- A slot's record and its bytes. The parts of a slot have fixed lengths, so each stands at its own offset, and the round trip of the whole is that
-- of each part.
use mathlib.Core.Path.{◌≡◌, refl, sym, ap, ◌∙◌}
use mathlib.Core.List.{List, [], ◌∷◌, ◌++◌, append_assoc}
use Prim.Native.Nat.{ℕ, ◌+◌, ◌*◌, ◌^◌, ◌≤◌, ◌<◌}
use native.Mathlib.Omega.{arith}
use lib.Dec.{eqb}
use lib.ListN.{length, get_or, take, drop, length-append, length-drop}
use lib.Seq.{drop-drop, drop_at, take-add, get_or-drop}
use Rattle.wire.specs.Field.{Bytes, be, to_be}
use Rattle.wire.specs.Table.{cat, tab}
use Rattle.wire.proofs.Laws.Field.{length-to_be, to_be-bytes, be-to_be, to_be-be, be-bound, bytes-nil, bytes-cons, bytes-append, bytes_drop}
use Rattle.wire.proofs.Laws.Table.{length-cat, take-cat, bytes-cat, length-tab, get_or-tab, tab-take, tab-back-at, cat-back-at}
use Rattle.slot.specs.Layout.{read_capacity, write_capacity, no_read, no_write, bit, read_of, read_bytes, read_size, write_of, write_bytes, write_size, start_at, commit_at, reads_at, writes_at, slot_size, slot_of, slot_bytes}
use Rattle.slot.specs.Fit.{Fitting, Bytewise, Flagged}
use Rattle.slot.specs.declared.SlotRecord.{SlotRecord}
use Rattle.slot.proofs.Entry.{flag-back, bit-back, bit_byte, length-read_bytes, length-write_bytes, read_back, write-back, read-bytes-back, write-bytes-back, read_bytes-bytes, write_bytes-bytes}

-- the parts of a slot's bytes
first : SlotRecord → List ℕ
first v = v.phase ∷ bit v.ignoring ∷ v.taken ∷ v.readcount ∷ v.writecount ∷ []

read_part : SlotRecord → List ℕ
read_part v = cat read_capacity (λ i. read_bytes (get_or v.reads i no_read))

write_part : SlotRecord → List ℕ
write_part v = cat write_capacity (λ i. write_bytes (get_or v.writes i no_write))

length-read_part : (v : SlotRecord) → length (read_part v) ≡ read_size * read_capacity
unfolding read_part
length-read_part v = length-cat read_size read_capacity (λ i. read_bytes (get_or v.reads i no_read)) (λ i h. length-read_bytes (get_or v.reads i no_read))

length-write_part : (v : SlotRecord) → length (write_part v) ≡ write_size * write_capacity
unfolding write_part
length-write_part v = length-cat write_size write_capacity (λ i. write_bytes (get_or v.writes i no_write)) (λ i h. length-write_bytes (get_or v.writes i no_write))

module _ (w : ℕ) (v : SlotRecord) where
  -- a slot's bytes are as many as the layout says
  pub length-slot_bytes : length (slot_bytes w v) ≡ slot_size w
  unfolding slot_bytes read_part write_part
  length-slot_bytes =
      simp (length-append, length-to_be, length-read_part v, length-write_part v) (omega arith)

  module _ (rest : List ℕ) where
    -- where each part stands
    from_start : drop start_at (slot_bytes w v ++ rest) ≡ to_be w v.start ++ (to_be w v.commit ++ (read_part v ++ (write_part v ++ rest)))
    unfolding slot_bytes read_part write_part
    from_start = simp append_assoc

    from-commit : drop (commit_at w) (slot_bytes w v ++ rest) ≡ to_be w v.commit ++ (read_part v ++ (write_part v ++ rest))
    from-commit =
        sym (drop-drop w start_at (slot_bytes w v ++ rest))
        ∙ ap (drop w) from_start
        ∙ drop_at (to_be w v.start) (to_be w v.commit ++ (read_part v ++ (write_part v ++ rest))) w (length-to_be w v.start)

    from-reads : drop (reads_at w) (slot_bytes w v ++ rest) ≡ read_part v ++ (write_part v ++ rest)
    from-reads =
        let place : reads_at w ≡ commit_at w + w = omega arith in
        ap (λ (k : ℕ). drop k (slot_bytes w v ++ rest)) place
        ∙ sym (drop-drop w (commit_at w) (slot_bytes w v ++ rest))
        ∙ ap (drop w) from-commit
        ∙ drop_at (to_be w v.commit) (read_part v ++ (write_part v ++ rest)) w (length-to_be w v.commit)

    from-writes : drop (writes_at w) (slot_bytes w v ++ rest) ≡ write_part v ++ rest
    from-writes =
        sym (drop-drop (read_size * read_capacity) (reads_at w) (slot_bytes w v ++ rest))
        ∙ ap (drop (read_size * read_capacity)) from-reads
        ∙ drop_at (read_part v) (write_part v ++ rest) (read_size * read_capacity) (length-read_part v)

    -- the fields of one byte stand at 0 to 4
    pub phase-at : get_or (slot_bytes w v ++ rest) 0 0 ≡ v.phase
    unfolding slot_bytes
    phase-at = refl

    pub ignoring-at : get_or (slot_bytes w v ++ rest) 1 0 ≡ bit v.ignoring
    unfolding slot_bytes
    ignoring-at = refl

    pub taken_at : get_or (slot_bytes w v ++ rest) 2 0 ≡ v.taken
    unfolding slot_bytes
    taken_at = refl

    pub readcount-at : get_or (slot_bytes w v ++ rest) 3 0 ≡ v.readcount
    unfolding slot_bytes
    readcount-at = refl

    pub writecount-at : get_or (slot_bytes w v ++ rest) 4 0 ≡ v.writecount
    unfolding slot_bytes
    writecount-at = refl

    -- the stamps stand at their offsets
    pub start-at : v.start < 256 ^ w → be w (drop start_at (slot_bytes w v ++ rest)) ≡ v.start
    start-at h = ap (be w) from_start ∙ be-to_be w v.start (to_be w v.commit ++ (read_part v ++ (write_part v ++ rest))) h

    pub commit-at : v.commit < 256 ^ w → be w (drop (commit_at w) (slot_bytes w v ++ rest)) ≡ v.commit
    commit-at h = ap (be w) from-commit ∙ be-to_be w v.commit (read_part v ++ (write_part v ++ rest)) h

    -- round trip, record to bytes to record: a record that fits is read back from its bytes, whatever follows them
    pub slot-back : Fitting w v → slot_of w (slot_bytes w v ++ rest) ≡ v
    unfolding slot_of slot_bytes read_part write_part
    slot-back fit =
        let start_back = start-at fit.start_fits in
        let commit-back = commit-at fit.commit_fits in
        let reads-back : tab read_capacity (λ i. read_of (drop (reads_at w + read_size * i) (slot_bytes w v ++ rest))) ≡ v.reads =
        tab-back-at no_read read_size read_of read_bytes read_capacity (reads_at w) (slot_bytes w v ++ rest) v.reads (write_part v ++ rest) from-reads
        fit.reads_length length-read_bytes (λ i h more. read_back (get_or v.reads i no_read) more (fit.read_words i h)) in
        let writes-back : tab write_capacity (λ i. write_of (drop (writes_at w + write_size * i) (slot_bytes w v ++ rest))) ≡ v.writes =
        tab-back-at no_write write_size write_of write_bytes write_capacity (writes_at w) (slot_bytes w v ++ rest) v.writes rest from-writes
        fit.writes_length length-write_bytes (λ i h more. write-back (get_or v.writes i no_write) more (fit.write_words i h)) in
        λ i.
        record {
          phase = v.phase;
          ignoring = flag-back v.ignoring i;
          taken = v.taken;
          readcount = v.readcount;
          writecount = v.writecount;
          start = start_back i;
          commit = commit-back i;
          reads = reads-back i;
          writes = writes-back i;
        }

    -- entry i of each log stands at its offset
    pub read_at : Fitting w v → (i : ℕ) → i < read_capacity
        → read_of (drop (reads_at w + read_size * i) (slot_bytes w v ++ rest)) ≡ get_or v.reads i no_read
    unfolding slot_of
    read_at fit i h =
        sym (get_or-tab read_capacity (λ j. read_of (drop (reads_at w + read_size * j) (slot_bytes w v ++ rest))) no_read i h)
        ∙ ap (λ (u : SlotRecord). get_or u.reads i no_read) (slot-back fit)

    pub write-at : Fitting w v → (i : ℕ) → i < write_capacity
        → write_of (drop (writes_at w + write_size * i) (slot_bytes w v ++ rest)) ≡ get_or v.writes i no_write
    unfolding slot_of
    write-at fit i h =
        sym (get_or-tab write_capacity (λ j. write_of (drop (writes_at w + write_size * j) (slot_bytes w v ++ rest))) no_write i h)
        ∙ ap (λ (u : SlotRecord). get_or u.writes i no_write) (slot-back fit)

    -- the bytes of entry i of each log stand there
    pub read-bytes-at : (i : ℕ) → i < read_capacity
        → take read_size (drop (reads_at w + read_size * i) (slot_bytes w v ++ rest)) ≡ read_bytes (get_or v.reads i no_read)
    unfolding read_part
    read-bytes-at i h =
        ap (take read_size) (sym (drop-drop (read_size * i) (reads_at w) (slot_bytes w v ++ rest)) ∙ ap (drop (read_size * i)) from-reads)
        ∙ take-cat read_size read_capacity (λ j. read_bytes (get_or v.reads j no_read)) (write_part v ++ rest)
        (λ j below. length-read_bytes (get_or v.reads j no_read)) i h

    pub write-bytes-at : (i : ℕ) → i < write_capacity
        → take write_size (drop (writes_at w + write_size * i) (slot_bytes w v ++ rest)) ≡ write_bytes (get_or v.writes i no_write)
    unfolding write_part
    write-bytes-at i h =
        ap (take write_size) (sym (drop-drop (write_size * i) (writes_at w) (slot_bytes w v ++ rest)) ∙ ap (drop (write_size * i)) from-writes)
        ∙ take-cat write_size write_capacity (λ j. write_bytes (get_or v.writes j no_write)) rest
        (λ j below. length-write_bytes (get_or v.writes j no_write)) i h

-- the parts of a slot's bytes are cut out of a list one after the other
cut : (w : ℕ) (l : List ℕ) →
    take (slot_size w) l
    ≡ take start_at l
    ++ take w (drop start_at l)
    ++ take w (drop (commit_at w) l)
    ++ take (read_size * read_capacity) (drop (reads_at w) l)
    ++ take (write_size * write_capacity) (drop (writes_at w) l)
cut w l =
    let stamps : take (reads_at w) l ≡ take start_at l ++ take w (drop start_at l) ++ take w (drop (commit_at w) l) =
    let place : reads_at w ≡ start_at + w + w = omega arith in
    ap (λ (k : ℕ). take k l) place ∙ rw (take-add (start_at + w) w l, take-add start_at w l) in
    rw (take-add (writes_at w) (write_size * write_capacity) l, take-add (reads_at w) (read_size * read_capacity) l, stamps)

first_back : (l : List ℕ) → start_at ≤ length l → get_or l 1 0 ≤ 1
    → get_or l 0 0 ∷ bit (eqb (get_or l 1 0) 1) ∷ get_or l 2 0 ∷ get_or l 3 0 ∷ get_or l 4 0 ∷ [] ≡ take start_at l
unfolding cat tab
first_back l h f = rw (bit-back (get_or l 1 0) f) (tab-take start_at l 0 h)

-- round trip, bytes to record to bytes: bytes whose flag and marks are 0 or 1 are written back from the record that they stand for
pub bytes_back : (w : ℕ) (l : List ℕ) → Bytes l → slot_size w ≤ length l → Flagged w l → slot_bytes w (slot_of w l) ≡ take (slot_size w) l
unfolding slot_of slot_bytes
bytes_back w l b h f =
    let stamp : (at : ℕ) → at + w ≤ length l → to_be w (be w (drop at l)) ≡ take w (drop at l) =
    λ at fits. to_be-be w (drop at l) (bytes_drop at l b) (rw length-drop (omega arith)) in
    let reads-back : cat read_capacity (λ i. read_bytes (get_or (slot_of w l).reads i no_read)) ≡ take (read_size * read_capacity) (drop (reads_at w) l) =
    cat-back-at no_read read_size read_of read_bytes read_capacity (reads_at w) l
    (λ i below.
    read-bytes-back (drop (reads_at w + read_size * i) l) (bytes_drop (reads_at w + read_size * i) l b) (rw length-drop (omega arith))
    (rw get_or-drop (f.marks i below))) in
    let writes-back : cat write_capacity (λ i. write_bytes (get_or (slot_of w l).writes i no_write)) ≡ take (write_size * write_capacity) (drop (writes_at w) l) =
    cat-back-at no_write write_size write_of write_bytes write_capacity (writes_at w) l
    (λ i below.
    write-bytes-back (drop (writes_at w + write_size * i) l) (bytes_drop (writes_at w + write_size * i) l b) (rw length-drop (omega arith))) in
    let front = first_back l (omega arith) f.flag in
    let start_back = stamp start_at (omega arith) in
    let commit-back = stamp (commit_at w) (omega arith) in
    (λ i. front i ++ start_back i ++ commit-back i ++ reads-back i ++ writes-back i) ∙ sym (cut w l)

-- what bytes stand for fits
pub slot-fits : (w : ℕ) (l : List ℕ) → Bytes l → Fitting w (slot_of w l)
unfolding slot_of read_of write_of
slot-fits w l b =
    let word : (at : ℕ) → be 4 (drop at l) < 2 ^ 32 = λ at. be-bound 4 (drop at l) (bytes_drop at l b) in
    record {
      start_fits = be-bound w (drop start_at l) (bytes_drop start_at l b);
      commit_fits = be-bound w (drop (commit_at w) l) (bytes_drop (commit_at w) l b);
      reads_length = length-tab read_capacity (λ i. read_of (drop (reads_at w + read_size * i) l));
      writes_length = length-tab write_capacity (λ i. write_of (drop (writes_at w + write_size * i) l));
      read_words =
          λ i h.
          rw (get_or-tab read_capacity (λ j. read_of (drop (reads_at w + read_size * j) l)) no_read i h, drop-drop) (word (reads_at w + read_size * i + 2));
      write_words =
          λ i h.
          rw (get_or-tab write_capacity (λ j. write_of (drop (writes_at w + write_size * j) l)) no_write i h, drop-drop) (word (writes_at w + write_size * i + 1));
    }

bytes-parts : (a b c d e : List ℕ) → Bytes a → Bytes b → Bytes c → Bytes d → Bytes e → Bytes (a ++ b ++ c ++ d ++ e)
bytes-parts a b c d e p q r s t =
    bytes-append (a ++ b ++ c ++ d) e (bytes-append (a ++ b ++ c) d (bytes-append (a ++ b) c (bytes-append a b p q) r) s) t

-- the bytes of a record are bytes
pub slot-bytes : (w : ℕ) (v : SlotRecord) → Bytewise v → Bytes (slot_bytes w v)
unfolding slot_bytes first read_part write_part
slot-bytes w v s =
    bytes-parts (first v) (to_be w v.start) (to_be w v.commit) (read_part v) (write_part v)
    (bytes-cons v.phase (bit v.ignoring ∷ v.taken ∷ v.readcount ∷ v.writecount ∷ []) s.phase_byte
    (bytes-cons (bit v.ignoring) (v.taken ∷ v.readcount ∷ v.writecount ∷ []) (bit_byte v.ignoring)
    (bytes-cons v.taken (v.readcount ∷ v.writecount ∷ []) s.taken_byte
    (bytes-cons v.readcount (v.writecount ∷ []) s.readcount_byte (bytes-cons v.writecount [] s.writecount_byte bytes-nil)))))
    (to_be-bytes w v.start)
    (to_be-bytes w v.commit)
    (bytes-cat read_capacity (λ i. read_bytes (get_or v.reads i no_read)) (λ i h. read_bytes-bytes (get_or v.reads i no_read) (s.read_cells i h)))
    (bytes-cat write_capacity (λ i. write_bytes (get_or v.writes i no_write)) (λ i h. write_bytes-bytes (get_or v.writes i no_write) (s.write_cells i h)))
