use Rattle.std.proofs.Common.{◌∙◌, sym}
use mathlib.Core.Bool.{true≢false}
use Rattle.std.proofs.lemmas.Result.{err_from_is_err_and}
use Rattle.bounded_records.specs.declared.record.RecordFault.TheVariants.{Length}
use Rattle.bounded_records.proofs.RecordLemmas.{refused, refused_count, refused_text, refused_padding, accepted}
use Rattle.bounded_records.proofs.record.decode.Goals as goal

pub returns-then-not-has_record_size : goal.returns-then-not-has_record_size
returns-then-not-has_record_size c =
    refused c.args.given.now Length (λ long. true≢false (sym (c.has_record_size.ensures.1 long) ∙ c.if-not-has_record_size.true))

pub returns-then-not-counts_fit : goal.returns-then-not-counts_fit
returns-then-not-counts_fit c =
    refused_count _ _ _ (c.has_record_size.ensures.0 c.if-not-has_record_size.false) c.split_at.ensures.front c.split_at.ensures.back
    (λ fit. true≢false (sym (c.counts_fit.ensures.1 fit) ∙ c.if-not-counts_fit.true))

pub returns-in_err-text_of_field : goal.returns-in_err-text_of_field
returns-in_err-text_of_field c =
    let p = err_from_is_err_and c.from_residual.result c.from_residual.ensures.1 in
    rw (p.1, p.2, c.in_err-text_of_field.ensures.fault)
    (refused_text _ _ _ (c.has_record_size.ensures.0 c.if-not-has_record_size.false) c.split_at.ensures.front c.split_at.ensures.back
    (c.counts_fit.ensures.0 c.if-not-counts_fit.false) (λ well. c.in_err-text_of_field.ensures.malformed well.0))

pub returns-in_err-text_of_field-2 : goal.returns-in_err-text_of_field-2
returns-in_err-text_of_field-2 c =
    let p = err_from_is_err_and c.from_residual-in_err-text_of_field-2.result c.from_residual-in_err-text_of_field-2.ensures.1 in
    rw (p.1, p.2, c.in_err-text_of_field-2.ensures.fault)
    (refused_text _ _ _ (c.has_record_size.ensures.0 c.if-not-has_record_size.false) c.split_at.ensures.front c.split_at.ensures.back
    (c.counts_fit.ensures.0 c.if-not-counts_fit.false) (λ well. c.in_err-text_of_field-2.ensures.malformed well.1))

pub returns-then-not-are_padded : goal.returns-then-not-are_padded
returns-then-not-are_padded c =
    refused_padding _ _ _ (c.has_record_size.ensures.0 c.if-not-has_record_size.false) c.split_at.ensures.front c.split_at.ensures.back
    (c.counts_fit.ensures.0 c.if-not-counts_fit.false)
    (record { username = c.in_ok-text_of_field.field-0; role = c.in_ok-text_of_field-2.field-0 }) c.in_ok-text_of_field.ensures.ok c.in_ok-text_of_field-2.ensures.ok
    (λ padded. true≢false (sym (c.are_padded.ensures.1 padded) ∙ c.if-not-are_padded.true))

pub returns : goal.returns
returns c =
    let padded = c.are_padded.ensures.0 c.if-not-are_padded.false in
    accepted _ _ _ (c.has_record_size.ensures.0 c.if-not-has_record_size.false) c.split_at.ensures.front c.split_at.ensures.back
    (c.counts_fit.ensures.0 c.if-not-counts_fit.false)
    (record { username = c.in_ok-text_of_field.field-0; role = c.in_ok-text_of_field-2.field-0 }) c.in_ok-text_of_field.ensures.ok c.in_ok-text_of_field-2.ensures.ok
    padded.0 padded.1
