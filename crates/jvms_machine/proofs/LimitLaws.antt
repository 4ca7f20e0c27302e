-- The room that limits leave.
use Rattle.std.proofs.Common.{◌≡◌, ℕ, ◌+◌, ◌<◌, ◌≤◌, ◌^◌, true, ◌&&◌, nat_le, length, IsTrue, leb-true, arith}
use Rattle.std.proofs.lemmas.Bool.{and_parts}
use Rattle.jvms_machine.specs.declared.machine.Limits.{Limits}
use Rattle.jvms_machine.specs.State.{State}
use Rattle.jvms_machine.specs.Heap.{has_room_for_elements}
use Rattle.jvms_machine.specs.Exceptions.{has_room_for}
use Rattle.jvms_machine.specs.Limits.{is_between, are_limits}

-- There is room for the opening's objects, a thread and a frame. All objects can be counted in 32 bits, and all
-- elements by an int.
pub record HasRoom (limits : Limits) : Type 0 where
  pub objects : 4 ≤ limits.objects
  pub threads : 1 ≤ limits.threads
  pub frames : 1 ≤ limits.frames
  pub few_objects : limits.objects < 2 ^ 32
  pub few_elements : limits.elements < 2 ^ 31
  pub few_threads : limits.threads < 2 ^ 32

-- A number between two is at least the lower.
between_least : (least most n : ℕ) → is_between least most n ≡ true → least ≤ n
between_least least most n is = leb-true least n (and_parts (nat_le least n) (nat_le n most) is).0

-- A number between two is at most the higher.
between_most : (least most n : ℕ) → is_between least most n ≡ true → n ≤ most
between_most least most n is = leb-true n most (and_parts (nat_le least n) (nat_le n most) is).1

-- Valid limits have room.
pub limits_have_room : (limits : Limits) → IsTrue (are_limits limits) → HasRoom limits
limits_have_room limits are =
    let objects = is_between 4 16777216 limits.objects in
    let elements = is_between 0 268435456 limits.elements in
    let threads = is_between 1 1024 limits.threads in
    let frames = is_between 1 65536 limits.frames in
    let all_four = and_parts (objects && elements && threads) frames are in
    let first_three = and_parts (objects && elements) threads all_four.0 in
    let first_two = and_parts objects elements first_three.0 in
    let most_objects = between_most 4 16777216 limits.objects first_two.0 in
    let most_threads = between_most 1 1024 limits.threads first_three.1 in
    let most_elements = between_most 0 268435456 limits.elements first_two.1 in
    record {
      objects = between_least 4 16777216 limits.objects first_two.0;
      threads = between_least 1 1024 limits.threads first_three.1;
      frames = between_least 1 65536 limits.frames all_four.1;
      few_objects = omega arith;
      few_elements = omega arith;
      few_threads = omega arith;
    }

-- ---- Tests of room

pub room_is : (count : ℕ) (limits : Limits) (s : State) → has_room_for count limits s ≡ true → length s.heap + count ≤ limits.objects
room_is count limits s has = leb-true (length s.heap + count) limits.objects has

pub room_for_elements_is : (objects elements : ℕ) (limits : Limits) (s : State) → has_room_for_elements objects elements limits s ≡ true → (length s.heap + objects ≤ limits.objects) × (s.elements + elements ≤ limits.elements)
room_for_elements_is objects elements limits s has =
    let both = and_parts (nat_le (length s.heap + objects) limits.objects) (nat_le (s.elements + elements) limits.elements) has in
    (leb-true (length s.heap + objects) limits.objects both.0, leb-true (s.elements + elements) limits.elements both.1)
