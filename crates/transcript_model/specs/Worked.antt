-- Worked transcripts of one session, each with the deeds that its lines are judged by.
use Rattle.std.specs.Prelude.{ℕ, ◌+◌, ◌*◌, pos, Bool, true, false, List, [], ◌∷◌, ◌++◌, map, replicate}
use Rattle.std.specs.List.{range_with_len}
use Rattle.flake_base.specs.declared.session.End.TheVariants.{Left, Memory}
use Rattle.flake_base.specs.declared.segment.Seg.{Seg}
use Rattle.flake_model.specs.Store as part
use Rattle.flake_model.specs.Store.{Operation, Answer, always, value, missing, done, length_is}
use Rattle.flake_model.specs.Command.{Command, ping, get, set, mget, append, get_range}
use Rattle.flake_model.specs.Deed.{Deed}
use Rattle.reply_layout.specs.Layout.{segment}
use Rattle.pin_core.specs.declared.sizes.Sizes.{Sizes}
use Rattle.transcript_model.specs.Lines.{LineEvent, posted, ring_full, stage_full, at_end, sent, dropped, reaped}
use Rattle.transcript_model.specs.Terms.{Terms}

pub record Worked : Type 0 where
  pub terms : Terms
  pub events : List LineEvent

abbrev pub key : ℕ → List ℕ
key letter = letter ∷ []

abbrev pub a : List ℕ
a = key 97

abbrev pub b : List ℕ
b = key 98

abbrev pub c : List ℕ
c = key 99

abbrev pub j : List ℕ
j = key 106

abbrev pub k : List ℕ
k = key 107

abbrev pub m : List ℕ
m = key 109

abbrev pub x : List ℕ
x = key 120

abbrev pub deed : ℕ → Operation → Answer → List ℕ → List ℕ → Deed
deed call operation answer found stored =
    record {
      entry = record { session = 0; call = call; part = 0 };
      operation = operation;
      answer = answer;
      found =
          found;
      first = 0;
      stored = stored;
    }

abbrev pub set_deed : ℕ → List ℕ → List ℕ → List ℕ → Deed
set_deed call key bytes stored = deed call (part.set always false key bytes) done [] stored

abbrev pub get_deed : ℕ → List ℕ → List ℕ → List ℕ → Deed
get_deed call key bytes found = deed call (part.get key) (value bytes) found []

-- session 0 of a run with the defaults, left after so many replies; all its frames up to the given one were sent whole
-- the sizes of the pool where no words choose others
abbrev pub default_sizes : Sizes
default_sizes = record { small = 4096; large = 1024; credits = 0 }

abbrev pub driven : ℕ → List Command → List Deed → ℕ → ℕ → Bool → List LineEvent → Worked
driven threshold commands deeds replies whole failed events = record {
  terms = record {
    number = 0;
    sizes = default_sizes;
    ring = 1160;
    threshold = threshold;
    stage = map (λ n. 1048576 + 512 * n) (range_with_len 0 128);
    commands = commands;
    end = record { end = Left; taken = 0; replies = replies; failed = failed };
    whole = whole;
    deeds = deeds;
  };
  events = events;
}

abbrev pub plain_set : List ℕ → List ℕ → Command
plain_set key bytes = set always false key bytes

abbrev pub one : ℕ → ℕ → List Seg
one address len = segment address len ∷ []

-- three sizes about the threshold
abbrev pub about_the_threshold : Worked
about_the_threshold = driven 512
    (plain_set a (replicate 511 65) ∷ plain_set b (replicate 512 66) ∷ plain_set c (replicate 513 67) ∷ get a
    ∷ get b ∷ get c ∷ [])
    (set_deed 0 a (replicate 511 65) (1114112 ∷ []) ∷ set_deed 1 b (replicate 512 66) (1114624 ∷ [])
    ∷ set_deed 2 c (replicate 513 67) (3145728 ∷ [])
    ∷ get_deed 3 a (replicate 511 65) (1114112 ∷ []) ∷ get_deed 4 b (replicate 512 66) (1114624 ∷ [])
    ∷ get_deed 5 c (replicate 513 67) (3145728 ∷ []) ∷ [])
    6 6 false
    (posted 0 0 (one 1048576 5) (one 1114112 511)
    ∷ posted 1 0 (one 1049088 5) (one 1114624 512)
    ∷ posted 2 0 (one 1049600 5) (one 3145728 513)
    ∷ posted 3 0 (segment 1050112 512 ∷ segment 1050624 7 ∷ []) []
    ∷ posted 4 0 (segment 1051136 6 ∷ segment 1114624 512 ∷ segment 1051142 2 ∷ []) []
    ∷ posted 5 0 (segment 1051648 6 ∷ segment 3145728 513 ∷ segment 1051654 2 ∷ []) [] ∷ [])

-- a value is replaced while a frame has it; its buffer comes back with that frame
abbrev pub replaced : Worked
replaced = driven 512
    (plain_set k (replicate 600 65) ∷ get k ∷ plain_set k (replicate 600 66) ∷ plain_set j (replicate 600 67)
    ∷ plain_set m (replicate 600 68) ∷ [])
    (set_deed 0 k (replicate 600 65) (3145728 ∷ []) ∷ get_deed 1 k (replicate 600 65) (3145728 ∷ [])
    ∷ set_deed 2 k (replicate 600 66) (3149824 ∷ [])
    ∷ set_deed 3 j (replicate 600 67) (3153920 ∷ []) ∷ set_deed 4 m (replicate 600 68) (3145728 ∷ []) ∷ [])
    5 5 false
    (posted 0 0 (one 1048576 5) (one 3145728 600)
    ∷ posted 1 0 (segment 1049088 6 ∷ segment 3145728 600 ∷ segment 1049094 2 ∷ []) []
    ∷ posted 2 0 (one 1049600 5) (one 3149824 600)
    ∷ posted 3 0 (one 1050112 5) (one 3153920 600)
    ∷ sent 0 5 ∷ sent 1 608 ∷ sent 2 5 ∷ sent 3 5
    ∷ reaped 0 0 ∷ reaped 1 1 ∷ reaped 2 0 ∷ reaped 3 0
    ∷ posted 4 0 (one 1048576 5) (one 3145728 600) ∷ [])

-- one value twice in a reply, and a missing key
abbrev pub twice_in_a_reply : Worked
twice_in_a_reply = driven 512
    (plain_set k (replicate 600 65) ∷ mget (k ∷ k ∷ x ∷ []) ∷ [])
    (set_deed 0 k (replicate 600 65) (3145728 ∷ []) ∷ get_deed 1 k (replicate 600 65) (3145728 ∷ [])
    ∷ record (get_deed 1 k (replicate 600 65) (3145728 ∷ [])) { entry = record { session = 0; call = 1; part = 1 } }
    ∷ record (deed 1 (part.get x) missing [] []) { entry = record { session = 0; call = 1; part = 2 } } ∷ [])
    2 2 false
    (posted 0 0 (one 1048576 5) (one 3145728 600)
    ∷ posted 1 0 (segment 1049088 10 ∷ segment 3145728 600 ∷ segment 1049098 8 ∷ segment 3145728 600
    ∷ segment 1049106 7 ∷ []) [] ∷ [])

-- bytes are appended to a fragment that a frame has
abbrev pub appended_to : Worked
appended_to = driven 512
    (plain_set k (replicate 4090 65) ∷ get k ∷ append k (replicate 10 66) ∷ get k ∷ [])
    (set_deed 0 k (replicate 4090 65) (3145728 ∷ []) ∷ get_deed 1 k (replicate 4090 65) (3145728 ∷ [])
    ∷ deed 2 (part.append k (replicate 10 66)) (length_is 4100) [] (3149824 ∷ 1114112 ∷ [])
    ∷ get_deed 3 k (replicate 4090 65 ++ replicate 10 66) (3149824 ∷ 1114112 ∷ []) ∷ [])
    4 4 false
    (posted 0 0 (one 1048576 5) (one 3145728 4090)
    ∷ posted 1 0 (segment 1049088 7 ∷ segment 3145728 4090 ∷ segment 1049095 2 ∷ []) []
    ∷ posted 2 0 (one 1049600 7) (segment 3149824 4096 ∷ segment 1114112 4 ∷ [])
    ∷ posted 3 0 (segment 1050112 7 ∷ segment 3149824 4096 ∷ segment 1050119 6 ∷ []) []
    ∷ sent 0 5 ∷ sent 1 4099 ∷ sent 2 7 ∷ sent 3 4109
    ∷ reaped 0 0 ∷ reaped 1 1 ∷ [])

-- the wire fails in the second frame
abbrev pub failing_wire : Worked
failing_wire = driven 512
    (plain_set k (replicate 600 65) ∷ get k ∷ ping ∷ [])
    (set_deed 0 k (replicate 600 65) (3145728 ∷ []) ∷ get_deed 1 k (replicate 600 65) (3145728 ∷ []) ∷ [])
    3 1 true
    (posted 0 0 (one 1048576 5) (one 3145728 600)
    ∷ posted 1 0 (segment 1049088 6 ∷ segment 3145728 600 ∷ segment 1049094 2 ∷ []) []
    ∷ posted 2 0 (one 1049600 7) []
    ∷ sent 0 5 ∷ dropped 1 608 ∷ dropped 2 7
    ∷ reaped 0 0 ∷ reaped 1 0 ∷ reaped 2 0 ∷ [])

-- a SET that answers the old value
abbrev pub taken_over : Worked
taken_over = driven 512
    (plain_set k (replicate 600 65) ∷ set always true k (replicate 600 66) ∷ [])
    (set_deed 0 k (replicate 600 65) (3145728 ∷ [])
    ∷ deed 1 (part.set always true k (replicate 600 66)) (value (replicate 600 65)) (3145728 ∷ []) (3149824
    ∷ []) ∷ [])
    2 2 false
    (posted 0 0 (one 1048576 5) (one 3145728 600)
    ∷ posted 1 0 (segment 1049088 6 ∷ segment 3145728 600 ∷ segment 1049094 2 ∷ []) (one 3149824 600)
    ∷ sent 0 5 ∷ sent 1 608 ∷ reaped 0 0 ∷ reaped 1 1 ∷ [])

-- a threshold of one byte
abbrev pub all_pinned : Worked
all_pinned = driven 1
    (plain_set a (120 ∷ []) ∷ get a ∷ [])
    (set_deed 0 a (120 ∷ []) (1114112 ∷ []) ∷ get_deed 1 a (120 ∷ []) (1114112 ∷ []) ∷ [])
    2 2 false
    (posted 0 0 (one 1048576 5) (one 1114112 1)
    ∷ posted 1 0 (segment 1049088 4 ∷ segment 1114112 1 ∷ segment 1049092 2 ∷ []) [] ∷ [])

-- a range that begins inside a fragment
abbrev pub inside_a_fragment : Worked
inside_a_fragment = driven 512
    (plain_set k (replicate 5000 65) ∷ get_range k (pos 100) (pos 4999) ∷ [])
    (set_deed 0 k (replicate 5000 65) (3145728 ∷ 3149824 ∷ [])
    ∷ record (deed 1 (part.get_range k (pos 100) (pos 4999)) (value (replicate 4900 65)) (3145728 ∷ 3149824
    ∷ []) []) { first = 100 } ∷ [])
    2 2 false
    (posted 0 0 (one 1048576 5) (segment 3145728 4096 ∷ segment 3149824 904 ∷ [])
    ∷ posted 1 0 (segment 1049088 7 ∷ segment 3145828 3996 ∷ segment 3149824 904 ∷ segment 1049095 2 ∷ []) [] ∷ [])

-- four large fragments and a short one
abbrev pub five_fragments : Worked
five_fragments =
    let places = 3145728 ∷ 3149824 ∷ 3153920 ∷ 3158016 ∷ 1114112 ∷ [] in
    driven 512
    (plain_set k (replicate 16385 65) ∷ get k ∷ [])
    (set_deed 0 k (replicate 16385 65) places ∷ get_deed 1 k (replicate 16385 65) places ∷ [])
    2 2 false
    (posted 0 0 (one 1048576 5) (segment 3145728 4096 ∷ segment 3149824 4096 ∷ segment 3153920 4096
    ∷ segment 3158016 4096 ∷ segment 1114112 1 ∷ [])
    ∷ posted 1 0 (segment 1049088 8 ∷ segment 3145728 4096 ∷ segment 3149824 4096 ∷ segment 3153920 4096
    ∷ segment 3158016 4096 ∷ segment 1049096 3 ∷ []) [] ∷ [])

-- the stage is used up
abbrev pub stage_used_up : Worked
stage_used_up = driven 512 (replicate 129 ping) [] 128 128 false
    (map (λ n. posted n 0 (one (1048576 + 512 * n) 7) []) (range_with_len 0 128) ++ stage_full 1 0 ∷ [])

-- the ring is used up
abbrev pub ring_used_up : Worked
ring_used_up =
    let places = 3145728 ∷ 3149824 ∷ 3153920 ∷ 3158016 ∷ [] in
    let frame : ℕ → LineEvent = λ n. posted n 0 (segment (1048576 + 512 * n) 8 ∷ segment 3145728 4096
    ∷ segment 3149824 4096 ∷ segment 3153920 4096 ∷ segment 3158016 4096 ∷ segment (1048584 + 512 * n) 2
    ∷ []) [] in
    driven 512
    (plain_set k (replicate 16384 65) ∷ replicate 21 (get k) ++ mget (replicate 64 k) ∷ [])
    (set_deed 0 k (replicate 16384 65) places
    ∷ map (λ n. get_deed n k (replicate 16384 65) places) (range_with_len 1 21))
    22 22 false
    (posted 0 0 (one 1048576 5) (segment 3145728 4096 ∷ segment 3149824 4096 ∷ segment 3153920 4096
    ∷ segment 3158016 4096 ∷ [])
    ∷ map frame (range_with_len 1 21) ++ ring_full 1154 1032 ∷ [])

-- a call that has to reap one of two gathered frames
abbrev pub pings : ℕ → List LineEvent → List LineEvent
pings reaps rest = map (λ n. posted n 0 (one (1048576 + 512 * n) 7) []) (range_with_len 0 128) ++ sent 0 7
    ∷ sent 1 7 ∷ posted 128 reaps (one 1048576 7) [] ∷ rest

abbrev pub reaps_one : Worked
reaps_one = driven 512 (replicate 130 ping) [] 129 129 false (pings 1 (reaped 1 0 ∷ []))

abbrev pub worked : List Worked
worked = about_the_threshold ∷ replaced ∷ twice_in_a_reply ∷ appended_to ∷ failing_wire ∷ taken_over ∷ all_pinned
    ∷ inside_a_fragment ∷ five_fragments ∷ stage_used_up ∷ ring_used_up ∷ reaps_one ∷ []

-- Wrong ones.

-- SET and GET of 600 bytes: the GET's line, and the SET's fragments
abbrev pub set_then_get : List Seg → List Seg → List LineEvent → Worked
set_then_get fragments segments rest = driven 512
    (plain_set k (replicate 600 65) ∷ get k ∷ [])
    (set_deed 0 k (replicate 600 65) (3145728 ∷ []) ∷ get_deed 1 k (replicate 600 65) (3145728 ∷ []) ∷ [])
    2 2 false
    (posted 0 0 (one 1048576 5) fragments ∷ posted 1 0 segments [] ∷ rest)

abbrev pub found_and_stored : List Seg
found_and_stored = segment 1049088 6 ∷ segment 3145728 600 ∷ segment 1049094 2 ∷ []

-- the GET shows another address than the SET
abbrev pub other_address : Worked
other_address = set_then_get (one 3145728 600) (segment 1049088 6 ∷ segment 3149824 600 ∷ segment 1049094 2 ∷ []) []

-- the reply is copied
abbrev pub copied_reply : Worked
copied_reply = set_then_get (one 3145728 600) (segment 1049088 512 ∷ segment 1049600 96 ∷ []) []

-- what was stored isn't shown
abbrev pub nothing_shown : Worked
nothing_shown = set_then_get [] found_and_stored []

-- a frame is reaped that wasn't gathered
abbrev pub reaped_too_early : Worked
reaped_too_early = set_then_get (one 3145728 600) found_and_stored (reaped 0 0 ∷ [])

-- frames are gathered out of order
abbrev pub gathered_out_of_order : Worked
gathered_out_of_order = set_then_get (one 3145728 600) found_and_stored (sent 1 608 ∷ [])

-- a frame is dropped though no put failed
abbrev pub dropped_without_fault : Worked
dropped_without_fault = set_then_get (one 3145728 600) found_and_stored (dropped 0 5 ∷ [])

-- more unpins are the last than the frame has segments in stored fragments
abbrev pub recycled_too_many : Worked
recycled_too_many = set_then_get (one 3145728 600) found_and_stored (sent 0 5 ∷ reaped 0 1 ∷ [])

-- the end is said of a session that was left
abbrev pub end_of_a_left_session : Worked
end_of_a_left_session = set_then_get (one 3145728 600) found_and_stored (at_end ∷ [])

-- a call shows no reap where it needs one, or one more than it needs
abbrev pub missing_reap : Worked
missing_reap = driven 512 (replicate 130 ping) [] 129 129 false (pings 0 [])

abbrev pub needless_reap : Worked
needless_reap = driven 512 (replicate 130 ping) [] 129 129 false (pings 2 [])

-- a stage is said to be used up while a gathered frame can be reaped
abbrev pub refused_too_early : Worked
refused_too_early = driven 512 (replicate 130 ping) [] 128 128 false
    (map (λ n. posted n 0 (one (1048576 + 512 * n) 7) []) (range_with_len 0 128) ++ sent 0 7 ∷ stage_full 1 0 ∷ [])

-- a threshold of 512 is taken for one byte
abbrev pub pinned_below_the_threshold : Worked
pinned_below_the_threshold = record all_pinned { terms = record all_pinned.terms { threshold = 512 } }

abbrev pub wrong : List Worked
wrong = other_address ∷ copied_reply ∷ nothing_shown ∷ reaped_too_early ∷ gathered_out_of_order
    ∷ dropped_without_fault ∷ recycled_too_many ∷ end_of_a_left_session ∷ missing_reap ∷ needless_reap
    ∷ refused_too_early ∷ pinned_below_the_threshold ∷ []

-- Two frames are gathered, and the next call meets want of memory; it may have reaped one of them, or none.
abbrev pub wants_memory : List LineEvent → Worked
wants_memory rest = record {
  terms = record (driven 512
      (replicate 3 ping) [] 2 2 false []).terms {
        end = record {
          end = Memory;
          taken = 0;
          replies = 2;
          failed =
              false;
        };
      };
  events = (posted 0 0 (one 1048576 7) [] ∷ posted 1 0 (one 1049088 7) [] ∷ sent 0 7 ∷ sent 1 7 ∷ []) ++ at_end
      ∷ rest;
}
