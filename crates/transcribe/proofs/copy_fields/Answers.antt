use Rattle.std.proofs.Common.{sym, refl, ap, ◌∙◌, subst}
use Rattle.message.specs.Reading.{head_of, options_of}
use Rattle.message.specs.Writing.{state_of, started, payload_added}
use Rattle.transcribe.specs.Transcribing.{Copyable}
use Rattle.transcribe.proofs.Copying.{fields_of, finish, never_refused, settled_ok}
use Rattle.transcribe.proofs.copy_fields.Goals as goal

pub copy_options-requires : goal.copy_options-requires
copy_options-requires c =
    let w = state_of c.args.writer.now in
    let f = fields_of c.args.datagram (state_of c.args.writer.now) (head_of c.in_ok-header.header) c.in_ok-header.reader c.type_inv.datagram c.requires.is_message c.requires.writer_is_fresh c.requires.writer_has_room c.in_ok-header.ensures in
    let s = settled_ok c.start.result _ (started w (head_of c.in_ok-header.header)) w (state_of c.start.new.self) c.start.ensures.answer f.start c.start.ensures.state in
    subst (Copyable (options_of c.in_ok-header.reader)) (sym s) f.copyable

pub returns-in_err-payload-2 : goal.returns-in_err-payload-2
returns-in_err-payload-2 c =
    let w = state_of c.args.writer.now in
    let h = head_of c.in_ok-header.header in
    let f = fields_of c.args.datagram (state_of c.args.writer.now) (head_of c.in_ok-header.header) c.in_ok-header.reader c.type_inv.datagram c.requires.is_message c.requires.writer_is_fresh c.requires.writer_has_room c.in_ok-header.ensures in
    let s = settled_ok c.start.result _ (started w h) w (state_of c.start.new.self) c.start.ensures.answer f.start c.start.ensures.state in
    let e = finish c.args.datagram.now _ w (state_of c.start.new.self) (state_of c.copy_options.new.writer) h _ _ c.in_ok-payload.field-0.now f s c.copy_options.ensures.copied (ap (λ r. r.now) (c.copy_options.ensures.datagram ∙ c.in_ok-header.ensures.1)) c.in_ok-payload.ensures in
    absurd (never_refused c.payload-2.result _ _ c.payload-2.ensures.answer e.accepted c.in_err-payload-2.was)

pub returns : goal.returns
returns c =
    let w = state_of c.args.writer.now in
    let h = head_of c.in_ok-header.header in
    let v = state_of c.copy_options.new.writer in
    let p = c.in_ok-payload.field-0.now in
    let f = fields_of c.args.datagram (state_of c.args.writer.now) (head_of c.in_ok-header.header) c.in_ok-header.reader c.type_inv.datagram c.requires.is_message c.requires.writer_is_fresh c.requires.writer_has_room c.in_ok-header.ensures in
    let s = settled_ok c.start.result _ (started w h) w (state_of c.start.new.self) c.start.ensures.answer f.start c.start.ensures.state in
    let e = finish c.args.datagram.now _ w (state_of c.start.new.self) v h _ _ p f s c.copy_options.ensures.copied (ap (λ r. r.now) (c.copy_options.ensures.datagram ∙ c.in_ok-header.ensures.1)) c.in_ok-payload.ensures in
    let u = settled_ok c.payload-2.result _ (payload_added v p) v (state_of c.payload-2.new.self) c.payload-2.ensures.answer e.accepted c.payload-2.ensures.state in
    record {
      answer = refl;
      lender = ap (λ x. x.lender) u ∙ e.lender;
      buffer = ap (λ x. x.buffer) u ∙ e.buffer;
      len = ap (λ x. x.len) u ∙ e.len;
    }
