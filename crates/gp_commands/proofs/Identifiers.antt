-- The identifiers of the forms that have one.
use Rattle.std.proofs.Common.{◌≡◌, ℕ, ◌<◌, true, eqb, refl, sym, ap, ◌∙◌}
use Rattle.std.proofs.lemmas.Bool.{eqb-true, eq-eqb, agree_below, agree_below_at}
use Rattle.gp_commands.specs.declared.form.Form.{Form}
use Rattle.gp_commands.specs.declared.form.Form.TheVariants as forms
use Rattle.gp_commands.specs.Forms.{report_id, commissioning_id, channel_request_id, reply_id, channel_config_id, identifiers, form_of}

-- forms by number
abbrev pub number_of : Form → ℕ
number_of forms.Plain = 0
number_of forms.Move = 1
number_of forms.Step = 2
number_of forms.Vector = 3
number_of forms.Report = 4
number_of forms.Commissioning = 5
number_of forms.Reply = 6
number_of forms.ChannelRequest = 7
number_of forms.ChannelConfig = 8
number_of forms.Other = 9

report_alone : agree_below (λ id. eqb (number_of (form_of id)) 4) (λ id. eqb id report_id) 256 ≡ true
unfolding form_of identifiers
report_alone = refl

commissioning_alone : agree_below (λ id. eqb (number_of (form_of id)) 5) (λ id. eqb id commissioning_id) 256 ≡ true
unfolding form_of identifiers
commissioning_alone = refl

reply_alone : agree_below (λ id. eqb (number_of (form_of id)) 6) (λ id. eqb id reply_id) 256 ≡ true
unfolding form_of identifiers
reply_alone = refl

request_alone : agree_below (λ id. eqb (number_of (form_of id)) 7) (λ id. eqb id channel_request_id) 256 ≡ true
unfolding form_of identifiers
request_alone = refl

config_alone : agree_below (λ id. eqb (number_of (form_of id)) 8) (λ id. eqb id channel_config_id) 256 ≡ true
unfolding form_of identifiers
config_alone = refl

alone : (number limit : ℕ) → agree_below (λ id. eqb (number_of (form_of id)) number) (λ id. eqb id limit) 256 ≡ true → (id : ℕ) → id < 256 → number_of (form_of id) ≡ number → id ≡ limit
alone number limit all id lt e =
    eqb-true id limit (sym (agree_below_at (λ id. eqb (number_of (form_of id)) number) (λ id. eqb id limit) 256 id all lt) ∙ eq-eqb _ _ e)

pub is_report : (id : ℕ) → id < 256 → form_of id ≡ forms.Report → id ≡ report_id
is_report id lt e = alone 4 report_id report_alone id lt (ap number_of e)

pub is_commissioning : (id : ℕ) → id < 256 → form_of id ≡ forms.Commissioning → id ≡ commissioning_id
is_commissioning id lt e = alone 5 commissioning_id commissioning_alone id lt (ap number_of e)

pub is_reply : (id : ℕ) → id < 256 → form_of id ≡ forms.Reply → id ≡ reply_id
is_reply id lt e = alone 6 reply_id reply_alone id lt (ap number_of e)

pub is_request : (id : ℕ) → id < 256 → form_of id ≡ forms.ChannelRequest → id ≡ channel_request_id
is_request id lt e = alone 7 channel_request_id request_alone id lt (ap number_of e)

pub is_config : (id : ℕ) → id < 256 → form_of id ≡ forms.ChannelConfig → id ≡ channel_config_id
is_config id lt e = alone 8 channel_config_id config_alone id lt (ap number_of e)

pub report_form : form_of report_id ≡ forms.Report
unfolding form_of identifiers
report_form = refl

pub commissioning_form : form_of commissioning_id ≡ forms.Commissioning
unfolding form_of identifiers
commissioning_form = refl

pub reply_form : form_of reply_id ≡ forms.Reply
unfolding form_of identifiers
reply_form = refl

pub request_form : form_of channel_request_id ≡ forms.ChannelRequest
unfolding form_of identifiers
request_form = refl

pub config_form : form_of channel_config_id ≡ forms.ChannelConfig
unfolding form_of identifiers
config_form = refl
