use Rattle.dnsv_program_laws.proofs.laws.layers.Goals as goal

pub returns : goal.returns
returns c = record {
  names = record {
    one_name = c.a_text_has_one_reading.ensures.name;
    one_fault = c.a_text_has_one_reading.ensures.fault;
    apart = c.a_text_has_one_reading.ensures.apart;
  };
  messages = record {
    one_message = c.one_message.ensures;
    no_fault_of_a_message = c.no_fault_of_a_message.ensures;
    one_fault = c.one_fault.ensures;
    one_capture = c.one_answer.ensures.messages;
    messages_alone = c.one_answer.ensures.messages_alone;
    zero_length_alone = c.one_answer.ensures.zero_length_alone;
    capture_octets = c.one_answer.ensures.octets;
  };
  tsig = record {
    one_answer = c.one_answer-2.ensures.one;
    one_ring = c.one_ring_or_fault.ensures.ring;
    one_fault = c.one_ring_or_fault.ensures.fault;
    apart = c.one_ring_or_fault.ensures.apart;
  };
  evidence = record {
    one_rrsig = c.record_laws.ensures.one_rrsig;
    one_signed_data = c.one_signed_data.ensures.one;
    one_reason = c.evidence_or_one_refusal.ensures.one;
    no_reason_against_evidence = c.evidence_or_one_refusal.ensures.never_both;
  };
  verdicts = record {
    one_table = c.a_table_is_its_verifier.ensures.within;
    one_list_of_anchors = c.a_text_is_one_list_of_anchors.ensures.anchors;
    one_fault_of_anchors = c.a_text_is_one_list_of_anchors.ensures.fault;
    anchors_apart = c.a_text_is_one_list_of_anchors.ensures.apart;
    one_way = c.a_question_leads_one_way.ensures.verdict;
    one_explanation = c.a_report_has_one_explanation.ensures;
    one_refusal = c.a_question_leads_one_way.ensures.refusal;
    verdict_apart = c.a_question_leads_one_way.ensures.not_both;
  };
  timelines = record {
    one_timeline = c.one_thing_is_said_of_a_question.ensures.timeline;
    one_refusal = c.what_is_refused_throughout.ensures.one;
    one_text = c.a_timeline_has_one_text.ensures;
  };
}
