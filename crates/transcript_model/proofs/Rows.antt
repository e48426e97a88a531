-- The worked transcripts pass the test and so are right; the wrong ones fail it.
use Rattle.std.proofs.Common.{◌≡◌, true, false, refl}
use Rattle.std.specs.Fmt.{digits}
use Rattle.std.specs.List.{AllByRecursion}
use Rattle.transcript_model.specs.Standing.{Standing, at_first}
use Rattle.transcript_model.specs.Right.{AreRight}
use Rattle.transcript_model.specs.Worked.{Worked, worked, wrong, about_the_threshold, replaced, twice_in_a_reply}
use Rattle.transcript_model.specs.Worked.{appended_to, failing_wire, taken_over, all_pinned, inside_a_fragment}
use Rattle.transcript_model.specs.Worked.{five_fragments, stage_used_up, ring_used_up, reaps_one, other_address}
use Rattle.transcript_model.specs.Worked.{copied_reply, nothing_shown, reaped_too_early, gathered_out_of_order}
use Rattle.transcript_model.specs.Worked.{dropped_without_fault, recycled_too_many, end_of_a_left_session, missing_reap}
use Rattle.transcript_model.specs.Worked.{needless_reap, refused_too_early, pinned_below_the_threshold}
use Rattle.transcript_model.proofs.Judge.{all_ok, last_of, all_right, ok, after, post_ok, post_after, ring_ok, stage_ok}
use Rattle.transcript_model.proofs.Judge.{gather_ok, reap_ok, fits, none_fits, are_segs, is_seg, all_buffers, is_buffer}
use Rattle.transcript_model.proofs.Judge.{is_small, is_large}
use Rattle.transcript_model.proofs.Refused.{refused}

abbrev Passes : Worked → Type 0
Passes row = all_ok row.terms at_first row.events ≡ true

abbrev Fails : Worked → Type 0
Fails row = all_ok row.terms at_first row.events ≡ false

about_the_threshold_passes : Passes about_the_threshold
unfolding digits all_ok ok after post_ok post_after ring_ok stage_ok gather_ok reap_ok fits none_fits are_segs is_seg
    all_buffers is_buffer is_small is_large
about_the_threshold_passes = refl

replaced_passes : Passes replaced
unfolding digits all_ok ok after post_ok post_after ring_ok stage_ok gather_ok reap_ok fits none_fits are_segs is_seg
    all_buffers is_buffer is_small is_large
replaced_passes = refl

twice_in_a_reply_passes : Passes twice_in_a_reply
unfolding digits all_ok ok after post_ok post_after ring_ok stage_ok gather_ok reap_ok fits none_fits are_segs is_seg
    all_buffers is_buffer is_small is_large
twice_in_a_reply_passes = refl

appended_to_passes : Passes appended_to
unfolding digits all_ok ok after post_ok post_after ring_ok stage_ok gather_ok reap_ok fits none_fits are_segs is_seg
    all_buffers is_buffer is_small is_large
appended_to_passes = refl

failing_wire_passes : Passes failing_wire
unfolding digits all_ok ok after post_ok post_after ring_ok stage_ok gather_ok reap_ok fits none_fits are_segs is_seg
    all_buffers is_buffer is_small is_large
failing_wire_passes = refl

taken_over_passes : Passes taken_over
unfolding digits all_ok ok after post_ok post_after ring_ok stage_ok gather_ok reap_ok fits none_fits are_segs is_seg
    all_buffers is_buffer is_small is_large
taken_over_passes = refl

all_pinned_passes : Passes all_pinned
unfolding digits all_ok ok after post_ok post_after ring_ok stage_ok gather_ok reap_ok fits none_fits are_segs is_seg
    all_buffers is_buffer is_small is_large
all_pinned_passes = refl

inside_a_fragment_passes : Passes inside_a_fragment
unfolding digits all_ok ok after post_ok post_after ring_ok stage_ok gather_ok reap_ok fits none_fits are_segs is_seg
    all_buffers is_buffer is_small is_large
inside_a_fragment_passes = refl

five_fragments_passes : Passes five_fragments
unfolding digits all_ok ok after post_ok post_after ring_ok stage_ok gather_ok reap_ok fits none_fits are_segs is_seg
    all_buffers is_buffer is_small is_large
five_fragments_passes = refl

stage_used_up_passes : Passes stage_used_up
unfolding digits all_ok ok after post_ok post_after ring_ok stage_ok gather_ok reap_ok fits none_fits are_segs is_seg
    all_buffers is_buffer is_small is_large
stage_used_up_passes = refl

ring_used_up_passes : Passes ring_used_up
unfolding digits all_ok ok after post_ok post_after ring_ok stage_ok gather_ok reap_ok fits none_fits are_segs is_seg
    all_buffers is_buffer is_small is_large
ring_used_up_passes = refl

reaps_one_passes : Passes reaps_one
unfolding digits all_ok ok after post_ok post_after ring_ok stage_ok gather_ok reap_ok fits none_fits are_segs is_seg
    all_buffers is_buffer is_small is_large
reaps_one_passes = refl

other_address_fails : Fails other_address
unfolding digits all_ok ok after post_ok post_after ring_ok stage_ok gather_ok reap_ok fits none_fits are_segs is_seg
    all_buffers is_buffer is_small is_large
other_address_fails = refl

copied_reply_fails : Fails copied_reply
unfolding digits all_ok ok after post_ok post_after ring_ok stage_ok gather_ok reap_ok fits none_fits are_segs is_seg
    all_buffers is_buffer is_small is_large
copied_reply_fails = refl

nothing_shown_fails : Fails nothing_shown
unfolding digits all_ok ok after post_ok post_after ring_ok stage_ok gather_ok reap_ok fits none_fits are_segs is_seg
    all_buffers is_buffer is_small is_large
nothing_shown_fails = refl

reaped_too_early_fails : Fails reaped_too_early
unfolding digits all_ok ok after post_ok post_after ring_ok stage_ok gather_ok reap_ok fits none_fits are_segs is_seg
    all_buffers is_buffer is_small is_large
reaped_too_early_fails = refl

gathered_out_of_order_fails : Fails gathered_out_of_order
unfolding digits all_ok ok after post_ok post_after ring_ok stage_ok gather_ok reap_ok fits none_fits are_segs is_seg
    all_buffers is_buffer is_small is_large
gathered_out_of_order_fails = refl

dropped_without_fault_fails : Fails dropped_without_fault
unfolding digits all_ok ok after post_ok post_after ring_ok stage_ok gather_ok reap_ok fits none_fits are_segs is_seg
    all_buffers is_buffer is_small is_large
dropped_without_fault_fails = refl

recycled_too_many_fails : Fails recycled_too_many
unfolding digits all_ok ok after post_ok post_after ring_ok stage_ok gather_ok reap_ok fits none_fits are_segs is_seg
    all_buffers is_buffer is_small is_large
recycled_too_many_fails = refl

end_of_a_left_session_fails : Fails end_of_a_left_session
unfolding digits all_ok ok after post_ok post_after ring_ok stage_ok gather_ok reap_ok fits none_fits are_segs is_seg
    all_buffers is_buffer is_small is_large
end_of_a_left_session_fails = refl

missing_reap_fails : Fails missing_reap
unfolding digits all_ok ok after post_ok post_after ring_ok stage_ok gather_ok reap_ok fits none_fits are_segs is_seg
    all_buffers is_buffer is_small is_large
missing_reap_fails = refl

needless_reap_fails : Fails needless_reap
unfolding digits all_ok ok after post_ok post_after ring_ok stage_ok gather_ok reap_ok fits none_fits are_segs is_seg
    all_buffers is_buffer is_small is_large
needless_reap_fails = refl

refused_too_early_fails : Fails refused_too_early
unfolding digits all_ok ok after post_ok post_after ring_ok stage_ok gather_ok reap_ok fits none_fits are_segs is_seg
    all_buffers is_buffer is_small is_large
refused_too_early_fails = refl

pinned_below_the_threshold_fails : Fails pinned_below_the_threshold
unfolding digits all_ok ok after post_ok post_after ring_ok stage_ok gather_ok reap_ok fits none_fits are_segs is_seg
    all_buffers is_buffer is_small is_large
pinned_below_the_threshold_fails = refl

abbrev pub IsRightRow : Worked → Type 0
IsRightRow row = (last : Standing) × AreRight row.terms at_first row.events last

abbrev pub IsWrongRow : Worked → Type 0
IsWrongRow row = (last : Standing) → AreRight row.terms at_first row.events last → ⊥

right_row : (row : Worked) → Passes row → IsRightRow row
right_row row is = (last_of row.terms at_first row.events, all_right row.terms at_first row.events is)

pub all_worked : AllByRecursion IsRightRow worked
all_worked = (
  right_row about_the_threshold about_the_threshold_passes,
  (
    right_row replaced replaced_passes,
    (
      right_row twice_in_a_reply twice_in_a_reply_passes,
      (
        right_row appended_to appended_to_passes,
        (
          right_row failing_wire failing_wire_passes,
          (
            right_row taken_over taken_over_passes,
            (
              right_row all_pinned all_pinned_passes,
              (
                right_row inside_a_fragment inside_a_fragment_passes,
                (
                  right_row five_fragments five_fragments_passes,
                  (
                    right_row stage_used_up stage_used_up_passes,
                    (right_row ring_used_up ring_used_up_passes, (right_row reaps_one reaps_one_passes, tt)),
                  ),
                ),
              ),
            ),
          ),
        ),
      ),
    ),
  ),
)

pub none_wrong : AllByRecursion IsWrongRow wrong
none_wrong = (
  λ last. refused other_address.terms at_first last other_address.events tt other_address_fails,
  (
    λ last. refused copied_reply.terms at_first last copied_reply.events tt copied_reply_fails,
    (
      λ last. refused nothing_shown.terms at_first last nothing_shown.events tt nothing_shown_fails,
      (
        λ last. refused reaped_too_early.terms at_first last reaped_too_early.events tt reaped_too_early_fails,
        (
          λ last. refused gathered_out_of_order.terms at_first last gathered_out_of_order.events tt
              gathered_out_of_order_fails,
          (
            λ last. refused dropped_without_fault.terms at_first last dropped_without_fault.events tt
                dropped_without_fault_fails,
            (
              λ last. refused recycled_too_many.terms at_first last recycled_too_many.events tt recycled_too_many_fails,
              (
                λ last. refused end_of_a_left_session.terms at_first last end_of_a_left_session.events tt
                    end_of_a_left_session_fails,
                (
                  λ last. refused missing_reap.terms at_first last missing_reap.events tt missing_reap_fails,
                  (
                    λ last. refused needless_reap.terms at_first last needless_reap.events tt needless_reap_fails,
                    (
                      λ last. refused refused_too_early.terms at_first last refused_too_early.events tt
                          refused_too_early_fails,
                      (
                        λ last. refused pinned_below_the_threshold.terms at_first last pinned_below_the_threshold.events
                            tt
                            pinned_below_the_threshold_fails,
                        tt,
                      ),
                    ),
                  ),
                ),
              ),
            ),
          ),
        ),
      ),
    ),
  ),
)
