pub mod FrontEndAnswers
